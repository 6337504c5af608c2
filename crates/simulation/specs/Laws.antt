-- What holds of every circuit, vector and fault.
use Rattle.std.specs.Prelude.{◌≡◌, ℕ, ◌^◌, ◌<◌, ◌≤◌, true, false, Some, None, ◌≢◌}
use Rattle.circuit.specs.Machines.{Machine, Settled, binary, effect, bit_of, stems, word, fail_word, Distinguishes, Detects}
use Rattle.circuit.specs.Plans.{Plan, has_site}
use Rattle.circuit.specs.Shape.{inputs_in}
use Rattle.circuit.specs.declared.faults.Fault.{Fault}
use Rattle.simulation.specs.declared.listing.Listed.{Listed}
use Rattle.simulation.specs.Rows.{X, entry}
use Rattle.simulation.specs.Checks.{stray}

-- bit j is the lowest 1 at or past bit n
pub record LowestPast (n v j : ℕ) : Type 0 where
  pub past : n ≤ j
  pub set : bit_of v j ≡ true
  pub lowest : (i : ℕ) → n ≤ i → i < j → bit_of v i ≡ false

pub record Lawful (p : Plan) (v : ℕ) : Type 0 where
  -- in each machine every stem has the value that its pins, its input and the fault give it
  pub settled : (m : Machine) → Settled binary (effect m) (bit_of v) p.lines (stems m v p.lines)
  -- no fail word is X: an entry is X exactly for a dropped fault
  pub below : (f : Fault) → fail_word p f v < 2 ^ 63
  pub marked : (x : Listed) → entry p v x ≡ X → x.dropped ≡ true
  -- the vector detects a fault exactly where its fail word is not 0
  pub detected : (f : Fault) → (fail_word p f v ≢ 0) → Detects p v f
  pub missed : (f : Fault) → fail_word p f v ≡ 0 → word p (Some f) v ≡ word p None v
  -- the vector tells two faults apart exactly where their fail words differ
  pub apart : (f g : Fault) → (fail_word p f v ≢ fail_word p g v) → Distinguishes p v (Some f) (Some g)
  pub alike : (f g : Fault) → fail_word p f v ≡ fail_word p g v → word p (Some f) v ≡ word p (Some g) v
  -- a fault at a site that the circuit lacks changes nothing
  pub absent : (f : Fault) → has_site p f.site ≡ false → word p (Some f) v ≡ word p None v
  -- a vector is refused at the lowest bit past the inputs, and taken where it has none
  pub refused : (j : ℕ) → stray (inputs_in p.lines) v ≡ Some j → LowestPast (inputs_in p.lines) v j
  pub taken : stray (inputs_in p.lines) v ≡ None → v < 2 ^ inputs_in p.lines
