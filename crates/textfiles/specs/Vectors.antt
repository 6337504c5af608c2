-- The vectors of a text.
use Rattle.std.specs.Prelude.{◌≡◌, ℕ, ◌+◌, ◌/◌, ◌%◌, ◌^◌, ◌<◌, ◌≤◌, min, cond, List, [], ◌∷◌, length, Ok, Err, Result, ◌==◌, nat_le, nat_lt, slice_index}
use Rattle.textfiles.specs.Cursors.{Spot, skip, flaw}
use Rattle.texts.specs.Steps.{unless}
use Rattle.textfiles.specs.Items.{items_of, each}
use Rattle.textfiles.specs.declared.flaws.Flaw.{Flaw}
use Rattle.textfiles.specs.declared.flaws.What.TheVariants.{NotABit, ShortVector, LongVector}

-- the rest of the item s, where its first j bytes mean v and n bytes are wanted; there is no vector of more than 64 bits
abbrev pub bits_on : ℕ → Spot → ℕ → ℕ → List ℕ → Result ℕ Flaw
bits_on n s j v [] = unless (nat_lt j n) (flaw s ShortVector) (Ok v)
bits_on n s j v (b ∷ bs) =
    unless (nat_le (min n 64) j) (flaw (skip j s) LongVector)
    (cond (b == 48) (bits_on n s (j + 1) v bs)
    (cond (b == 49) (bits_on n s (j + 1) (v + 2 ^ j) bs)
    (Err (flaw (skip j s) NotABit))))

abbrev pub vector_of : ℕ → Spot → Result ℕ Flaw
vector_of n s = bits_on n s 0 0 s.rest

abbrev pub vectors_of : List ℕ → ℕ → Result (List ℕ) Flaw
vectors_of text n = each (vector_of n) [] (items_of text)

-- v is the number whose bit j is byte j, of n bytes `0` and `1`
pub record Spells (n : ℕ) (bs : List ℕ) (v : ℕ) : Type 0 where
  pub few : n ≤ 64
  pub long : length bs ≡ n
  pub below : v < 2 ^ n
  pub bits : (j : ℕ) → j < n → slice_index bs j ≡ 48 + v / 2 ^ j % 2
