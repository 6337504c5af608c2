-- Bits and values as digits.
use Rattle.std.proofs.Common.{◌≡◌, ℕ, zero, suc, ◌+◌, ◌/◌, ◌^◌, Bool, true, false, [], ◌∷◌, ◌++◌, codes, append_assoc, decimal, sym, ap, ◌∙◌, div-one, one-add, add-one, lit<}
use Rattle.std.specs.Int.{from_bool}
use Rattle.std.proofs.lemmas.Fmt.{decimal_digit}
use Rattle.std.proofs.lemmas.Nat.{shr-shr}
use Rattle.textfiles.specs.Writing.{low_bit, bits, bits_text, log_line, value_text}

-- bit k + 1 of a number is bit k of its half
pub half : (v k : ℕ) → v / 2 ^ suc k ≡ v / 2 / 2 ^ k
half v k = ap (λ i. v / 2 ^ i) (sym (one-add k)) ∙ sym (shr-shr v 1 k)

more_bits : (w k : ℕ) → bits w k ++ low_bit (w / 2 ^ k) ∷ [] ≡ bits w (suc k)
more_bits w zero = ap (λ v. low_bit v ∷ []) (div-one w)
more_bits w (suc k) = ap (λ v. low_bit w ∷ (bits (w / 2) k ++ low_bit v ∷ [])) (half w k) ∙ ap (λ bs. low_bit w ∷ bs) (more_bits (w / 2) k)

-- one more bit
pub next_bit : (w k : ℕ) → bits w k ++ low_bit (w / 2 ^ k) ∷ [] ≡ bits w (k + 1)
next_bit w k = more_bits w k ∙ ap (bits w) (sym (add-one k))

pub value_digit : (v : Bool) → decimal (from_bool v) ≡ value_text v
value_digit false = decimal_digit 0 (lit< tt)
value_digit true = decimal_digit 1 (lit< tt)

-- two words in a line
pub spaced : (v i w o : ℕ) → bits_text v i ++ (codes " " ++ bits_text w o) ≡ log_line v i w o
spaced v i w o = sym (append_assoc (bits_text v i) (codes " ") (bits_text w o))
