-- Which bytes denote which fault.
use Rattle.std.specs.Prelude.{◌≡◌, ℕ, ◌+◌, ◌<◌, ◌≤◌, Bool, true, List, ◌∷◌, ◌++◌, length, Some, Ok, Result}
use Rattle.std.specs.List.{AllByRecursion, slice_get}
use Rattle.circuit.specs.Names.{find}
use Rattle.circuit.specs.Plans.{Plan, has_site}
use Rattle.circuit.specs.declared.faults.Fault.{Fault}
use Rattle.circuit.specs.declared.faults.Site.TheVariants.{Stem, Pin}
use Rattle.textfiles.specs.Cursors.{has}
use Rattle.textfiles.specs.Faults.{feeders}
use Rattle.textfiles.specs.Writing.{value_text}
use Rattle.textfiles.specs.declared.cursors.Class.TheVariants.{Name, Space}
use Rattle.textfiles.specs.declared.flaws.Flaw.{Flaw}

-- the bytes are the name of line l
pub record Names (p : Plan) (w : List ℕ) (l : ℕ) : Type 0 where
  pub some : 1 ≤ length w
  pub bytes : AllByRecursion (λ b. has Name b ≡ true) w
  pub line : find p.names w ≡ Some l

-- spaces or tabs or none, a slash and the value
pub data Ends : List ℕ → Bool → Type 0 where
  ends : (gap : List ℕ) {v : Bool} → AllByRecursion (λ b. has Space b ≡ true) gap → Ends (gap ++ 47 ∷ value_text v) v

-- n is the one place at which l stands
pub record Solely (l : ℕ) (qs : List ℕ) (n : ℕ) : Type 0 where
  pub there : slice_get qs n ≡ Some l
  pub alone : (k : ℕ) → slice_get qs k ≡ Some l → k ≡ n

-- NAME/V, NAME.P/V and FROM->NAME/V, where FROM feeds just one pin of NAME's gate
pub data Denotes : Plan → List ℕ → Fault → Type 0 where
  stem : {p : Plan} {w e : List ℕ} {l : ℕ} {v : Bool} → Names p w l → Ends e v → Denotes p (w ++ e) (record { site = Stem l; stuck = v })
  pin : {p : Plan} {w e : List ℕ} {l n : ℕ} {v : Bool} → Names p w l → n < 10 → has_site p (Pin l n) ≡ true → Ends e v → Denotes p (w ++ 46 ∷ (48 + n) ∷ e) (record { site = Pin l n; stuck = v })
  fed : {p : Plan} {from w e : List ℕ} {l m n : ℕ} {v : Bool} → Names p from l → Names p w m → Solely l (feeders (slice_get p.lines m)) n → Ends e v → Denotes p (from ++ 45 ∷ 62 ∷ (w ++ e)) (record { site = Pin m n; stuck = v })

-- an answer accepts exactly what denotes a fault, as that fault
pub record Faithful (p : Plan) (bs : List ℕ) (r : Result Fault Flaw) : Type 0 where
  pub accepts : (f : Fault) → Denotes p bs f → r ≡ Ok f
  pub accepted : (f : Fault) → r ≡ Ok f → Denotes p bs f
