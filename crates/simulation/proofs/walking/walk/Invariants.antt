use Rattle.std.proofs.Common.{◌≡◌, ℕ, ◌≤◌, take, drop}
use Rattle.circuit.specs.Machines.{effect, binary, bit_of, values_from, stems}
use Rattle.circuit.specs.Plans.{plan}
use Rattle.simulation.specs.Lanes.{machine_at, seen}
use Rattle.simulation.specs.Members.{members}
use Rattle.simulation.proofs.walking.walk.Given as goal

abbrev pub invariant-loop-i : goal.invariant-loop-i
invariant-loop-i g l =
    let m = g.M.Method in
    let lines = (plan l.circuit).lines in
    (k : ℕ) → k ≤ m.LANES → values_from binary (effect (machine_at (members l.batch) k)) (bit_of l.vector) (seen m.lane (take l.i l.work) k) (drop l.i lines) ≡ stems (machine_at (members l.batch) k) l.vector lines
