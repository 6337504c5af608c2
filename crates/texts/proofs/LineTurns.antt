-- The lines of a text, one by one.
use Rattle.std.proofs.Common.{◌≡◌, ℕ, zero, suc, ◌<◌, ◌≤◌, List, [], ◌∷◌, length, take, drop, refl, ap, arith}
use Rattle.std.proofs.lemmas.List.{length-take}
use Rattle.std.specs.List.{prefix_len, AllByRecursion}
use Rattle.texts.specs.Lines.{in_line, lines_from, lines_of}

lines_skip : (k : ℕ) (s : List ℕ) → lines_from k s ≡ lines_of (drop k s)
lines_skip zero s = refl
lines_skip (suc k) [] = refl
lines_skip (suc k) (b ∷ bs) = lines_skip k bs

pub lines_turn : (s : List ℕ) → 0 < length s → lines_of s ≡ take (prefix_len in_line s) s ∷ lines_of (drop (suc (prefix_len in_line s)) s)
lines_turn [] h = absurd (omega arith)
lines_turn (b ∷ bs) h = ap (λ r. take (prefix_len in_line (b ∷ bs)) (b ∷ bs) ∷ r) (lines_skip (prefix_len in_line (b ∷ bs)) bs)

-- no line is longer than the text
pub lines_short : (m k : ℕ) (s : List ℕ) → length s ≤ m → AllByRecursion (λ x. length x ≤ m) (lines_from k s)
lines_short m zero [] h = tt
lines_short m (suc k) [] h = tt
lines_short m (suc k) (b ∷ bs) h = lines_short m k bs (omega arith)
lines_short m zero (b ∷ bs) h = (omega (arith, length-take (prefix_len in_line (b ∷ bs)) (b ∷ bs)), lines_short m (prefix_len in_line (b ∷ bs)) bs (omega arith))
