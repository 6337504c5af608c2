-- The faults that a batch holds.
use Rattle.std.specs.Prelude.{◌≡◌, ℕ, List, length, None}
use Rattle.circuit.specs.declared.faults.Fault.{Fault}
use Rattle.simulation.specs.Lanes.{latest}
use Rattle.simulation.specs.declared.batches.Batch.{Batch}

abbrev pub members : Batch → List Fault
members b = b.faults.items

-- no fault of the batch sits at line i
abbrev pub Spared : Batch → ℕ → Type 0
Spared b i = latest (members b) i (length (members b)) ≡ None
