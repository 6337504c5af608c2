use Rattle.std.proofs.Common.{length, sym, ap, ◌∙◌}
use Rattle.simulation.specs.Lanes.{at_line}
use Rattle.simulation.specs.Members.{members}
use Rattle.simulation.proofs.Holding.{stuck_by, stuck_all}
use Rattle.simulation.proofs.walking.Here.hold.Goals as goal

pub returns : goal.returns
returns g c l le =
    let m = g.M.Method in
    let b = c.args.self.now.batch.now in
    sym (ap (stuck_by c.args.site l (m.lane c.loop-lane.value l)) c.in-None.ensures.steps.0)
    ∙ c.loop-lane.invariant.1 l le
    ∙ ap (λ i. stuck_by c.args.site l (m.lane c.args.start l) (at_line (members b) i (length (members b)))) (sym c.requires)
    ∙ stuck_all (members b) c.args.site l (m.lane c.args.start l)
