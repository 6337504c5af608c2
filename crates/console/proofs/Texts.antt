-- A text that is not another.
use Rattle.std.proofs.Common.{◌≡◌, ◌≢◌, ℕ, List, false, arith}
use Rattle.std.proofs.lemmas.Slice.Eq.{bytes_eq-Decides}
use Rattle.std.specs.Str.{bytes_eq}

pub differs : (xs ys : List ℕ) → xs ≢ ys → bytes_eq xs ys ≡ false
differs xs ys h = grind (arith, bytes_eq-Decides)
