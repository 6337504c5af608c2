-- A circuit with a line is sound.
use Rattle.std.proofs.Common.{◌≡◌, zero, suc, ◌<◌, List, [], ◌∷◌, map, length, vec_items, sym, ◌∙◌, subst, arith}
use Rattle.std.proofs.lemmas.List.{length-map}
use Rattle.circuit.specs.Plans.{plan, Sound}
use Rattle.circuit.specs.Shape.{Brief, Shown}
use Rattle.circuit.specs.Spelled.{bytes_of}
use Rattle.circuit.specs.declared.names.Name.{Name}
use Rattle.circuit.specs.declared.whole.Circuit.{Circuit}

names_short : (ns : List Name) → Brief (map bytes_of ns)
names_short [] i lt = absurd (omega arith)
names_short (n ∷ ns) zero lt = n.short
names_short (n ∷ ns) (suc i) lt = names_short ns i (omega arith)

names_count : (c : Circuit) → length (plan c).names ≡ length (plan c).lines
names_count c = length-map (vec_items c.draft.names) bytes_of ∙ sym c.draft.names.ok.0 ∙ c.draft.named ∙ c.draft.lines.ok.0

pub sound_of : (c : Circuit) → 0 < length (plan c).lines → Sound (plan c)
sound_of c some =
    let d = c.draft in
    let n = d.lines.ok.0 in
    let m = d.outputs.ok.0 in
    let w = c.whole (omega arith) in
    let t = d.tallied in
    record {
      few_lines = omega (arith, d.few);
      some_input = omega (arith, w.0);
      few_inputs = omega (arith, d.fewer);
      some_output = omega (arith, w.1);
      few_outputs = omega (arith, d.slim);
      counted = d.counted;
      fed = d.fed;
      numbered = d.numbered;
      shown = subst (Shown (plan c).outputs) n d.shown;
      named = names_count c;
      short = names_short (vec_items d.names);
      distinct = d.distinct;
    }
