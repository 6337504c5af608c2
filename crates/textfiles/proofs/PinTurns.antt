-- The first pin that a line feeds, and whether it feeds another.
use Rattle.std.proofs.Common.{◌≡◌, ℕ, suc, ◌+◌, ◌-◌, Bool, true, false, ◌||◌, eqb, List, [], ◌∷◌, length, take, drop, Some, None, Ok, Err, sym, refl, ap, ◌∙◌, ⊎_elim, arith, length-drop}
use Rattle.std.specs.List.{position, position_from, list_any}
use Rattle.std.proofs.lemmas.Iterator.Adapters.{position_from-zero}
use Rattle.std.proofs.lemmas.List.{take_all}
use Rattle.std.proofs.lemmas.Bool.{cond-true, cond-false, cases_Bool}
use Rattle.textfiles.specs.Cursors.{Spot, flaw}
use Rattle.textfiles.specs.Faults.{places_from, only}
use Rattle.textfiles.specs.declared.flaws.What.TheVariants.{NotFed, FedTwice}

neither : (a b : Bool) → (a || b) ≡ false → (a ≡ false) × (b ≡ false)
neither true b e = let z : ◌≡◌ {A = ℕ} 0 1 = cc in absurd (omega arith)
neither false b e = (refl, e)

module _ (l : ℕ) where
  abbrev is_line : ℕ → Bool
  is_line q = eqb q l

  no_place : (i : ℕ) (qs : List ℕ) → position_from is_line i qs ≡ None → places_from l i qs ≡ []
  no_place i [] e = refl
  no_place i (q ∷ qs) e =
      ⊎_elim
      (λ (t : eqb q l ≡ true). let c : position_from is_line i (q ∷ qs) ≡ Some i = cond-true _ _ _ t in let z : ◌≡◌ {A = ℕ} 0 1 = cc in absurd (omega arith))
      (λ (f : eqb q l ≡ false). cond-false _ _ _ f ∙ no_place (i + 1) qs (sym (cond-false _ _ _ f) ∙ e))
      (cases_Bool (eqb q l))

  first_place : (i : ℕ) (qs : List ℕ) (m : ℕ) → position_from is_line i qs ≡ Some m → (n : ℕ) × (m ≡ i + n) × (places_from l i qs ≡ m ∷ places_from l (m + 1) (drop (suc n) qs))
  first_place i [] m e = let z : ◌≡◌ {A = ℕ} 0 1 = cc in absurd (omega arith)
  first_place i (q ∷ qs) m e =
      ⊎_elim
      (λ (t : eqb q l ≡ true).
      let c : position_from is_line i (q ∷ qs) ≡ Some i = cond-true _ _ _ t in
      let here : i ≡ m = cc in
      (0, omega arith, cond-true _ _ _ t ∙ ap (λ k. k ∷ places_from l (k + 1) qs) here))
      (λ (f : eqb q l ≡ false).
      let r = first_place (i + 1) qs m (sym (cond-false _ _ _ f) ∙ e) in
      let later = r.1 in
      (suc r.0, omega arith, cond-false _ _ _ f ∙ r.2))
      (cases_Bool (eqb q l))

  none_more : (i : ℕ) (qs : List ℕ) → list_any is_line qs ≡ false → places_from l i qs ≡ []
  none_more i [] e = refl
  none_more i (q ∷ qs) e = let p = neither (eqb q l) (list_any is_line qs) e in cond-false _ _ _ p.0 ∙ none_more (i + 1) qs p.1

  some_more : (i : ℕ) (qs : List ℕ) → list_any is_line qs ≡ true → (k : ℕ) × (ks : List ℕ) × (places_from l i qs ≡ k ∷ ks)
  some_more i [] e = let z : ◌≡◌ {A = ℕ} 0 1 = cc in absurd (omega arith)
  some_more i (q ∷ qs) e =
      ⊎_elim
      (λ (t : eqb q l ≡ true). (i, places_from l (i + 1) qs, cond-true _ _ _ t))
      (λ (f : eqb q l ≡ false).
      let r = some_more (i + 1) qs (ap (λ b. b || list_any is_line qs) (sym f) ∙ e) in
      (r.0, r.1, cond-false _ _ _ f ∙ r.2))
      (cases_Bool (eqb q l))

  module _ (s : Spot) (qs : List ℕ) where
    pub not_fed : position is_line qs ≡ None → only s (places_from l 0 qs) ≡ Err (flaw s NotFed)
    not_fed e = ap (only s) (no_place 0 qs (sym (position_from-zero is_line qs) ∙ e))

    module _ (n : ℕ) (found : position is_line qs ≡ Some n) where
      start : places_from l 0 qs ≡ n ∷ places_from l (n + 1) (drop (n + 1) qs)
      start =
          let r = first_place 0 qs n (sym (position_from-zero is_line qs) ∙ found) in
          let same : suc r.0 ≡ n + 1 = let e = r.1 in omega arith in
          r.2 ∙ ap (λ k. n ∷ places_from l (n + 1) (drop k qs)) same

      rest_is : take (length qs - (n + 1)) (drop (n + 1) qs) ≡ drop (n + 1) qs
      rest_is = take_all (length qs - (n + 1)) (drop (n + 1) qs) (simp length-drop (omega arith))

      pub fed_once : list_any is_line (take (length qs - (n + 1)) (drop (n + 1) qs)) ≡ false → only s (places_from l 0 qs) ≡ Ok n
      fed_once e = ap (only s) (start ∙ ap (λ ks. n ∷ ks) (none_more (n + 1) (drop (n + 1) qs) (ap (list_any is_line) (sym rest_is) ∙ e)))

      pub fed_twice : list_any is_line (take (length qs - (n + 1)) (drop (n + 1) qs)) ≡ true → only s (places_from l 0 qs) ≡ Err (flaw s FedTwice)
      fed_twice e = let r = some_more (n + 1) (drop (n + 1) qs) (ap (list_any is_line) (sym rest_is) ∙ e) in ap (only s) (start ∙ ap (λ ks. n ∷ ks) r.2)
