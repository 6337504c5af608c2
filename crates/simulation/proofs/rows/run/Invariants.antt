use Rattle.std.proofs.Common.{◌≡◌, ◌-◌, map, length, take, drop}
use Rattle.circuit.specs.Plans.{plan}
use Rattle.simulation.specs.Rows.{entry}
use Rattle.simulation.proofs.Runs.{Begins}
use Rattle.simulation.proofs.rows.run.Given as goal

abbrev pub invariant-loop-vector : goal.invariant-loop-vector
invariant-loop-vector g l =
    Begins g.M.Method.LANES l.listed l.start
    × (take l.start l.row ≡ map (entry (plan l.circuit) l.vector) (take l.start l.listed))
    × (drop l.start l.row ≡ drop l.start l.initial.row)

abbrev pub decreases-loop-vector : goal.decreases-loop-vector
decreases-loop-vector g l = length l.listed - l.start
