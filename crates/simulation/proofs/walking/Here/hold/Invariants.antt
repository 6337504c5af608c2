use Rattle.std.proofs.Common.{◌≡◌, ℕ, ◌≤◌, length}
use Rattle.simulation.specs.Lanes.{at_line, left}
use Rattle.simulation.specs.Members.{members}
use Rattle.simulation.proofs.Holding.{stuck_by}
use Rattle.simulation.proofs.walking.Here.hold.Given as goal

abbrev pub invariant-loop-lane : goal.invariant-loop-lane
invariant-loop-lane g l =
    let m = g.M.Method in
    let b = l.self.batch.now in
    let it = l.lane-iterator in
    (goal.iterator-loop-lane g).can_next it
    × ((k : ℕ) → k ≤ m.LANES → stuck_by l.site k (m.lane l.value k) (left (members it.batch.now) it.next) ≡ stuck_by l.site k (m.lane l.initial.value k) (at_line (members b) (length l.self.before.now) (length (members b))))
