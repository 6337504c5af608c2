use Rattle.std.proofs.Common.{◌+◌, [], ◌∷◌, ◌++◌, drop, sym, ap, ◌∙◌, arith}
use Rattle.std.proofs.lemmas.List.{at_drop_all, append-nil, append_assoc}
use Rattle.simulation.specs.Members.{members}
use Rattle.simulation.specs.Rows.{live}
use Rattle.simulation.proofs.Fronts.{live_dropped, live_taken, live_room}
use Rattle.simulation.proofs.filing.gather.Goals as goal
use Rattle.simulation.proofs.filing.gather.Goals.{then-is_live, else-is_live}

pub add-requires : goal.add-requires
add-requires c =
    let b = c.loop-one.batch in
    let xs = c.args.listed.now in
    let i = c.loop-one.one-index in
    omega (arith, live_room xs i _ c.loop-one-test.true (members b) _ 64 (sym c.if-is_live.ensures) c.loop-one.invariant c.requires)

pub loop-one-preserved : goal.loop-one-preserved
loop-one-preserved c =
    let b = c.loop-one.batch in
    let xs = c.args.listed.now in
    let i = c.loop-one.one-index in
    let lt = c.loop-one-test.true in
    elim c.if-is_live.branch [
      | then-is_live w ↦
          ap (λ x. members x ++ live (drop (i + 1) xs)) w.batch-is ∙ ap (λ fs. fs ++ live (drop (i + 1) xs)) w.add.ensures
          ∙ append_assoc (members b) (_ ∷ []) (live (drop (i + 1) xs)) ∙ ap (λ fs. members b ++ fs) (sym (live_taken xs i _ lt (sym w.if-is_live.ensures))) ∙ c.loop-one.invariant
      | else-is_live w ↦
          ap (λ x. members x ++ live (drop (i + 1) xs)) w.batch-is ∙ ap (λ fs. members b ++ fs) (sym (live_dropped xs i _ lt (sym w.if-is_live.ensures))) ∙ c.loop-one.invariant
    ]

pub returns : goal.returns
returns c = sym (append-nil _) ∙ ap (λ fs. members c.loop-one.batch ++ fs) (sym (at_drop_all live c.args.listed.now c.loop-one.one-index (omega arith))) ∙ c.loop-one.invariant
