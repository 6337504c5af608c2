use Rattle.std.proofs.Common.{◌≡◌, Ok}
use Rattle.circuit.specs.Plans.{plan}
use Rattle.netlist.specs.Reading.{meaning}
use Rattle.console.specs.Loaded.{Loaded}
use Rattle.console.proofs.steps.bench.Given as goal

abbrev pub invariant-loop : goal.invariant-loop
invariant-loop g l = record { same : meaning l.text ≡ Ok (plan l.circuit); loaded : Loaded (plan l.circuit) }
