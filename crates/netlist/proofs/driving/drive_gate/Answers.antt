use Rattle.std.proofs.Common.{◌≡◌, ◌<◌, [], ◌∷◌, length, vec_items, sym, ap, ◌∙◌, subst, arith, rules}
use Rattle.std.proofs.lemmas.List.{length-map}
use Rattle.std.specs.List.{AllByRecursion}
use Rattle.circuit.specs.declared.lines.Line.TheVariants.{Gate}
use Rattle.circuit.specs.Gates.{fits}
use Rattle.circuit.specs.Plans.{plan_of}
use Rattle.circuit.specs.Shape.{gate_of}
use Rattle.circuit.specs.Spelled.{bytes_of}
use Rattle.netlist.specs.Tokens.{toks}
use Rattle.netlist.specs.Statements.{labels}
use Rattle.netlist.proofs.Pushed.{inputs_append, fits_gate, resolved}
use Rattle.netlist.proofs.Resolved.{labels_length, resolve_length}
use Rattle.netlist.proofs.driving.drive_gate.Goals as goal

pub push_line-requires-clause-line : goal.push_line-requires-clause-line
push_line-requires-clause-line c =
    let d = c.args.draft.now in
    let pins = c.args.pins in
    let ls = c.in_ok-found.found in
    let names = (plan_of d).names in
    let ns = labels pins.count (toks pins.scanner) in
    let size : length ls ≡ pins.count = resolve_length names ns ls (sym c.in_ok-found.ensures) ∙ labels_length pins.count (toks pins.scanner) in
    let same : length names ≡ length (vec_items d.lines) = length-map (vec_items d.names) bytes_of ∙ sym d.names.ok.0 ∙ d.named ∙ d.lines.ok.0 in
    fits_gate (vec_items d.lines) pins.kind ls (ap (fits pins.kind) size ∙ pins.fitted) (subst (λ n. AllByRecursion (λ i. i < n) ls) same (resolved names ns ls (sym c.in_ok-found.ensures)).0)

pub push_line-requires-clause-inputs : goal.push_line-requires-clause-inputs
push_line-requires-clause-inputs c =
    let d = c.args.draft.now in
    (omega (arith, inputs_append (vec_items d.lines) (Gate (gate_of c.args.pins.kind c.in_ok-found.found) ∷ []), d.tallied), search rules)
