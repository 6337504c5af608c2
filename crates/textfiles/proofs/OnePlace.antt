-- The one place at which a line stands.
use Rattle.std.proofs.Common.{◌≡◌, ℕ, zero, suc, ◌+◌, List, [], ◌∷◌, Some, None, Ok, sym, refl, ap, ◌∙◌, subst, ⊎_elim, arith}
use Rattle.std.proofs.lemmas.Bool.{cond-true, cond-false, cases_eq, eq-eqb, ne_eqb}
use Rattle.std.specs.List.{slice_get}
use Rattle.textfiles.specs.Cursors.{Spot}
use Rattle.textfiles.specs.Denotes.{Solely}
use Rattle.textfiles.specs.Faults.{places_from, only}

module _ (l : ℕ) where
  abbrev Absent : List ℕ → Type 0
  Absent qs = (k : ℕ) → slice_get qs k ≡ Some l → ⊥

  same : (q : ℕ) → Some q ≡ Some l → q ≡ l
  same q e = cc

  no_some : None ≡ Some l → ⊥
  no_some e = let z : ◌≡◌ {A = ℕ} 0 1 = cc in omega arith

  -- a place in the rest is one place on in the whole
  later : (q : ℕ) (qs : List ℕ) → (q ≡ l → ⊥) → Absent qs → Absent (q ∷ qs)
  later q qs ne h zero e = ne (same q e)
  later q qs ne h (suc k) e = h k e

  absent_places : (i : ℕ) (qs : List ℕ) → Absent qs → places_from l i qs ≡ []
  absent_places i [] h = refl
  absent_places i (q ∷ qs) h = cond-false _ _ _ (ne_eqb q l (λ e. h 0 (ap Some e))) ∙ absent_places (i + 1) qs (λ k. h (suc k))

  no_places : (i : ℕ) (qs : List ℕ) → places_from l i qs ≡ [] → Absent qs
  no_places i [] e = λ k t. no_some t
  no_places i (q ∷ qs) e =
      ⊎_elim
      (λ (h : q ≡ l). let c : places_from l i (q ∷ qs) ≡ i ∷ places_from l (i + 1) qs = cond-true _ _ _ (eq-eqb q l h) in let z : ◌≡◌ {A = ℕ} 0 1 = cc in absurd (omega arith))
      (λ (ne : q ≡ l → ⊥). later q qs ne (no_places (i + 1) qs (sym (cond-false _ _ _ (ne_eqb q l ne)) ∙ e)))
      (cases_eq q l)

  -- the first element is the one
  first_alone : (q : ℕ) (qs : List ℕ) → Absent qs → (k : ℕ) → slice_get (q ∷ qs) k ≡ Some l → k ≡ 0
  first_alone q qs h zero t = refl
  first_alone q qs h (suc k) t = absurd (h k t)

  -- the one stands in the rest
  rest_alone : (q : ℕ) (qs : List ℕ) (n : ℕ) → (q ≡ l → ⊥) → ((k : ℕ) → slice_get qs k ≡ Some l → k ≡ n) → (k : ℕ) → slice_get (q ∷ qs) k ≡ Some l → k ≡ suc n
  rest_alone q qs n ne h zero t = absurd (ne (same q t))
  rest_alone q qs n ne h (suc k) t = ap suc (h k t)

  one_place : (i : ℕ) (qs : List ℕ) (n : ℕ) → Solely l qs n → places_from l i qs ≡ (i + n) ∷ []
  one_place i [] n s = absurd (no_some s.there)
  one_place i (q ∷ qs) zero s =
      cond-true _ _ _ (eq-eqb q l (same q s.there))
      ∙ ap (λ r. i ∷ r) (absent_places (i + 1) qs (λ k t. let z = s.alone (suc k) t in omega arith))
      ∙ ap (λ k. k ∷ []) (omega arith)
  one_place i (q ∷ qs) (suc n) s =
      cond-false _ _ _ (ne_eqb q l (λ e. let z = s.alone 0 (ap Some e) in omega arith))
      ∙ one_place (i + 1) qs n (record { there = s.there; alone = λ k t. let z = s.alone (suc k) t in omega arith })
      ∙ ap (λ k. k ∷ []) (omega arith)

  the_place : (i : ℕ) (qs : List ℕ) (m : ℕ) → places_from l i qs ≡ m ∷ [] → (n : ℕ) × (m ≡ i + n) × Solely l qs n
  the_place i [] m e = let z : ◌≡◌ {A = ℕ} 0 1 = cc in absurd (omega arith)
  the_place i (q ∷ qs) m e =
      ⊎_elim
      (λ (h : q ≡ l).
      let c : places_from l i (q ∷ qs) ≡ i ∷ places_from l (i + 1) qs = cond-true _ _ _ (eq-eqb q l h) in
      let here : i ≡ m = cc in
      let none : places_from l (i + 1) qs ≡ [] = cc in
      (0, omega arith, record { there = ap Some h; alone = first_alone q qs (no_places (i + 1) qs none) }))
      (λ (ne : q ≡ l → ⊥).
      let r = the_place (i + 1) qs m (sym (cond-false _ _ _ (ne_eqb q l ne)) ∙ e) in
      (suc r.0, omega arith, record { there = r.2.there; alone = rest_alone q qs r.0 ne r.2.alone }))
      (cases_eq q l)

  pub only_solely : (s : Spot) (qs : List ℕ) (n : ℕ) → Solely l qs n → only s (places_from l 0 qs) ≡ Ok n
  only_solely s qs n h = ap (only s) (one_place 0 qs n h) ∙ ap (λ k. Ok k) (omega arith)

  single : (s : Spot) (is : List ℕ) (n : ℕ) → only s is ≡ Ok n → is ≡ n ∷ []
  single s [] n e = let z : ◌≡◌ {A = ℕ} 0 1 = cc in absurd (omega arith)
  single s (i ∷ []) n e = cc
  single s (i ∷ j ∷ is) n e = let z : ◌≡◌ {A = ℕ} 0 1 = cc in absurd (omega arith)

  pub solely_only : (s : Spot) (qs : List ℕ) (n : ℕ) → only s (places_from l 0 qs) ≡ Ok n → Solely l qs n
  solely_only s qs n e =
      let r = the_place 0 qs n (single s (places_from l 0 qs) n e) in
      let same_place : r.0 ≡ n = omega arith in
      subst (λ k. Solely l qs k) same_place r.2
