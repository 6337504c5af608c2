-- The first bytes of a list.
use Rattle.std.proofs.Common.{◌≡◌, ℕ, ◌<◌, List, [], ◌∷◌, get_or, drop, ap, ◌∙◌, arith}

-- a list that begins with a byte that is not 0
pub begins_with : (bs : List ℕ) (b : ℕ) → 0 < b → get_or bs 0 0 ≡ b → bs ≡ b ∷ drop 1 bs
begins_with [] b h e = absurd (omega arith)
begins_with (c ∷ bs) b h e = ap (λ x. x ∷ bs) e

pub begins_with_two : (bs : List ℕ) (a b : ℕ) → 0 < a → 0 < b → get_or bs 0 0 ≡ a → get_or (drop 1 bs) 0 0 ≡ b → bs ≡ a ∷ b ∷ drop 2 bs
begins_with_two [] a b h k d e = absurd (omega arith)
begins_with_two (x ∷ []) a b h k d e = absurd (omega arith)
begins_with_two (x ∷ y ∷ bs) a b h k d e = ap (λ u. u ∷ y ∷ bs) d ∙ ap (λ u. a ∷ u ∷ bs) e
