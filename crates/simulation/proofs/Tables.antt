-- A row written place by place.
use Rattle.std.proofs.Common.{◌≡◌, ℕ, ◌+◌, ◌<◌, List, [], ◌∷◌, ◌++◌, length, take, set, sym, ap, ◌∙◌}
use Rattle.std.proofs.lemmas.List.{append_assoc, take_more_set}

module _ {A : Type 0} (xs : List A) (s : ℕ) (y : A) where
  -- the written part and what is left to write, one place on
  pub front_grows : (left left' whole : List A) → s < length xs → left ≡ y ∷ left' → take s xs ++ left ≡ whole → take (s + 1) (set xs s y) ++ left' ≡ whole
  front_grows left left' whole h e z =
      ap (λ ys. ys ++ left') (take_more_set xs s y h) ∙ append_assoc (take s xs) (y ∷ []) left' ∙ ap (λ ys. take s xs ++ ys) (sym e) ∙ z
