-- One turn over the bytes of a vector.
use Rattle.std.proofs.Common.{◌≡◌, ℕ, ◌+◌, ◌^◌, ◌<◌, ◌≤◌, min, List, ◌∷◌, length, get_or, drop, Err, ap, ◌∙◌, add-one}
use native.Mathlib.Nat.{two-pow-succ}
use Rattle.std.proofs.lemmas.List.{at_drop_more}
use Rattle.std.proofs.lemmas.Bool.{cond-true, le-leb}
use Rattle.textfiles.specs.Cursors.{Spot, skip, flaw}
use Rattle.textfiles.specs.Vectors.{bits_on}
use Rattle.textfiles.specs.declared.flaws.What.TheVariants.{LongVector}

pub doubled : (j : ℕ) → 2 ^ (j + 1) ≡ 2 ^ j + 2 ^ j
doubled j = ap (λ k. 2 ^ k) (add-one j) ∙ two-pow-succ j

module _ (n : ℕ) (s : Spot) (v j : ℕ) (bs : List ℕ) (here : j < length bs) where
  start : bits_on n s j v (drop j bs) ≡ bits_on n s j v (get_or bs j 0 ∷ drop (j + 1) bs)
  start = at_drop_more (bits_on n s j v) bs j 0 here

  pub too_long : min n 64 ≤ j → bits_on n s j v (drop j bs) ≡ Err (flaw (skip j s) LongVector)
  too_long h = start ∙ cond-true _ _ _ (le-leb (min n 64) j h)
