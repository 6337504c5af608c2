-- What one vector files of the faults listed.
use Rattle.std.specs.Prelude.{ℕ, suc, ◌-◌, ◌*◌, ◌/◌, cond, List, [], ◌∷◌, length, drop, Some, None, ◌==◌, bit_xor}
use Rattle.circuit.specs.Machines.{Machine, fail_word}
use Rattle.circuit.specs.Plans.{Plan}
use Rattle.circuit.specs.declared.faults.Fault.{Fault}
use Rattle.simulation.specs.declared.listing.Listed.{Listed}

-- what stands for a dropped fault: 2 ^ 64 - 1
abbrev pub X : ℕ
X = 18446744073709551615

-- the entry of a listed fault under the vector v
abbrev pub entry : Plan → ℕ → Listed → ℕ
entry p v x = cond x.dropped X (fail_word p x.fault v)

-- the faults that are not dropped, in list order
abbrev pub live : List Listed → List Fault
live [] = []
live (x ∷ xs) = cond x.dropped (live xs) (x.fault ∷ live xs)

-- a machine's fault, alone
abbrev pub only : Machine → List Fault
only None = []
only (Some f) = f ∷ []

-- the last of the batches, where k faults go to a batch; with no fault, the batch of none
abbrev pub last_batch : ℕ → List Fault → List Fault
last_batch k fs = drop ((length fs - 1) / k * k) fs

-- how many of the listed faults, from the first on, one batch takes: all before the undropped fault that finds k others there
abbrev pub front : ℕ → List Listed → ℕ
front k [] = 0
front k (x ∷ xs) = cond x.dropped (suc (front k xs)) (cond (k == 0) 0 (suc (front (k - 1) xs)))

-- the entries of the faults after those in the lanes up to l, where lane k has the word `w k`
abbrev pub filed : (ℕ → ℕ) → ℕ → List Listed → List ℕ
filed w l [] = []
filed w l (x ∷ xs) = cond x.dropped (X ∷ filed w l xs) (bit_xor (w (suc l)) (w 0) ∷ filed w (suc l) xs)
