-- Output words and fail words.
use Rattle.std.proofs.Common.{◌≡◌, ℕ, ◌^◌, ◌<◌, ◌≤◌, Bool, true, false, cond, List, [], ◌∷◌, length, sym, ap, ◌∙◌, pow-suc, arith}
use lib.Bits.{bit_xor, xor_self, xor_assoc, xor_zero_r}
use Rattle.circuit.specs.Machines.{word_from}

bit_low : (b : Bool) → cond b 1 0 ≤ 1
bit_low true = omega arith
bit_low false = omega arith

pub word_low : (value : ℕ → Bool) (ks : List ℕ) → word_from value ks < 2 ^ length ks
word_low value [] = omega arith
word_low value (k ∷ ks) = omega (arith, bit_low (value k), word_low value ks, pow-suc 2 (length ks))

pub xor_back : (a c : ℕ) → bit_xor (bit_xor a c) c ≡ a
xor_back a c = xor_assoc a c c ∙ ap (bit_xor a) (xor_self c) ∙ xor_zero_r a

-- the exclusive or with one number tells two numbers apart
pub xor_cancel : (a b c : ℕ) → bit_xor a c ≡ bit_xor b c → a ≡ b
xor_cancel a b c e = sym (xor_back a c) ∙ ap (λ x. bit_xor x c) e ∙ xor_back b c
