use Rattle.std.proofs.Common.{◌≡◌, ◌+◌, ◌++◌, length, take, drop}
use Rattle.circuit.specs.Plans.{plan}
use Rattle.simulation.specs.Lanes.{lane_word}
use Rattle.simulation.specs.Rows.{live, filed}
use Rattle.simulation.proofs.filing.file.Given as goal

abbrev pub invariant-loop-i : goal.invariant-loop-i
invariant-loop-i g l =
    let w = lane_word g.M.Method.lane l.stems (plan l.circuit).outputs in
    (l.lane + length (live (drop l.i l.listed)) ≡ length (live l.listed))
    × (take l.i l.row ++ filed w l.lane (drop l.i l.listed) ≡ filed w 0 l.listed)
