use Rattle.std.proofs.Common.{◌≡◌, ◌+◌, ◌<◌, length, get_or, take, vec_items, sym, ap, ◌∙◌, arith, length-take}
use Rattle.std.proofs.lemmas.List.{at_drop_all, length-set, take_more_set}
use Rattle.circuit.specs.Shape.{blank}
use Rattle.circuit.specs.Survey.{highest, under, level_of, levels_from}
use Rattle.circuit.specs.declared.lines.Line.TheVariants.{Gate}
use Rattle.circuit.proofs.Levels.{line_at, fed_at, highest_push, under_low, level_low, levels_step, levelled}
use Rattle.circuit.proofs.whole.Circuit.depth.Goals as goal
use Rattle.circuit.proofs.whole.Circuit.depth.Goals.{in-Input, in-Gate}

pub highest-requires : goal.highest-requires
highest-requires c =
    let d = c.args.self.now.draft in
    let i = c.loop-i.i in
    let here : get_or (vec_items d.lines) i blank ≡ Gate c.in-Gate.gate = line_at _ _ i _ (omega arith) c.deref-line-items.ensures.value c.line-item.is ∙ c.in-Gate.is in
    record { fed = rw c.as_slice.ensures.value (λ k e lt. omega (arith, d.few, length-take i c.loop-i.levels, fed_at (vec_items d.lines) i c.in-Gate.gate d.fed (omega arith) here k e lt)) }

pub overflow_add-level : goal.overflow_add-level
overflow_add-level c = omega (arith, c.args.self.now.draft.few, under_low (take c.loop-i.i c.loop-i.levels) c.as_slice.result.now)

pub loop-i-preserved : goal.loop-i-preserved
loop-i-preserved c =
    let i = c.loop-i.i in
    let levels = c.loop-i.levels in
    let ts = take i levels in
    let ls = vec_items c.args.self.now.draft.lines in
    let level = c.match-line.level in
    let room : i < length levels = omega (arith, c.args.self.now.draft.few) in
    let grown = take_more_set levels i level room in
    let right : level ≡ level_of ts (get_or ls i blank) =
    elim c.match-line.branch [
      | in-Input w ↦ w.level-is ∙ sym (ap (level_of ts) w.in-Input.is)
      | in-Gate w ↦ w.level-is ∙ ap (λ n. 1 + n) (w.highest.ensures ∙ ap (λ ps. highest (under ts ps)) w.as_slice.ensures.value) ∙ sym (ap (level_of ts) w.in-Gate.is)
    ]
    ∙ ap (level_of ts) (sym (line_at _ _ i _ (omega arith) c.deref-line-items.ensures.value c.line-item.is))
    in
    record {
      whole = omega (arith, length-set levels i level);
      low = omega (arith, level_low ts (get_or ls i blank));
      top = omega (arith, ap highest grown, highest_push ts level);
      so_far = levels_step ts _ ls i level (omega arith) right grown ∙ c.loop-i.invariant.so_far;
    }

pub returns : goal.returns
returns c =
    let d = c.args.self.now.draft in
    record {
      deep = c.loop-i.invariant.top ∙ ap highest (sym (at_drop_all (levels_from (take c.loop-i.i c.loop-i.levels)) (vec_items d.lines) c.loop-i.i (omega arith)) ∙ c.loop-i.invariant.so_far);
      levelled = levelled _ d.fed;
    }
