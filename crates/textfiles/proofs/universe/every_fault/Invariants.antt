use Rattle.std.proofs.Common.{◌≡◌, ◌++◌, drop, vec_items}
use Rattle.circuit.specs.Plans.{plan}
use Rattle.textfiles.specs.Universe.{faults_from, every_fault}
use Rattle.textfiles.proofs.universe.every_fault.Given as goal

abbrev pub invariant-loop-number : goal.invariant-loop-number
invariant-loop-number l = vec_items l.faults ++ faults_from l.number (drop l.number (plan l.circuit).lines) ≡ every_fault (plan l.circuit)
