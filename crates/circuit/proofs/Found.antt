-- What a search for a name finds.
use Rattle.std.proofs.Common.{◌≡◌, ℕ, zero, suc, ◌+◌, ◌<◌, false, List, [], ◌∷◌, map, length, get_or, Some, None, Option, sym, refl, ap, ◌∙◌, ⊎_elim, arith}
use Rattle.std.proofs.lemmas.List.{get_or-map, length-map}
use Rattle.std.proofs.lemmas.Slice.Eq.{bytes_eq-Decides}
use Rattle.std.proofs.lemmas.Bool.{cases_Bool, cond-true, cond-false, both_ways}
use Rattle.std.specs.List.{AllWithin, HoldsAt}
use Rattle.std.specs.Option.{MatchOption}
use Rattle.std.specs.Str.{bytes_eq}
use Rattle.circuit.specs.Names.{find, find_from}

other : (n w : List ℕ) → (n ≡ w → ⊥) → bytes_eq n w ≡ false
other n w h = ⊎_elim (λ t. absurd (h ((bytes_eq-Decides n w).0 t))) (λ f. f) (cases_Bool (bytes_eq n w))

-- a search passes a name that is another
find_on : (i : ℕ) (n : List ℕ) (ns : List (List ℕ)) (w : List ℕ) → (n ≡ w → ⊥) → find_from i (n ∷ ns) w ≡ find_from (i + 1) ns w
find_on i n ns w h = cond-false _ _ _ (other n w h)

first_found : (i j : ℕ) (ns : List (List ℕ)) (w : List ℕ) → j < length ns → get_or ns j [] ≡ w → ((k : ℕ) → k < j → get_or ns k [] ≡ w → ⊥) → find_from i ns w ≡ Some (i + j)
first_found i j [] w h e before = absurd (omega arith)
first_found i zero (n ∷ ns) w h e before = cond-true _ _ _ ((bytes_eq-Decides n w).1 e) ∙ ap (λ k. Some k) (omega arith)
first_found i (suc j) (n ∷ ns) w h e before =
    find_on i n ns w (before 0 (omega arith)) ∙ first_found (i + 1) j ns w (omega arith) e (λ k l. before (suc k) (omega arith)) ∙ ap (λ k. Some k) (omega arith)

nothing_found : (i : ℕ) (ns : List (List ℕ)) (w : List ℕ) → ((k : ℕ) → k < length ns → get_or ns k [] ≡ w → ⊥) → find_from i ns w ≡ None
nothing_found i [] w h = refl
nothing_found i (n ∷ ns) w h = find_on i n ns w (h 0 (omega arith)) ∙ nothing_found (i + 1) ns w (λ k l. h (suc k) (omega arith))

found_from : (i l : ℕ) (ns : List (List ℕ)) (w : List ℕ) → find_from i ns w ≡ Some l → (j : ℕ) × (l ≡ i + j) × (j < length ns) × (get_or ns j [] ≡ w)
found_from i l [] w e = let z : ◌≡◌ {A = ℕ} 0 1 = cc in absurd (omega arith)
found_from i l (n ∷ ns) w e =
    ⊎_elim
    (λ t. let f : find_from i (n ∷ ns) w ≡ Some i = cond-true _ _ _ t in let h : l ≡ i = cc in (0, omega arith, omega arith, (bytes_eq-Decides n w).0 t))
    (λ f. let r = found_from (i + 1) l ns w (sym (cond-false _ _ _ f) ∙ e) in (suc r.0, omega arith, omega arith, r.3))
    (cases_Bool (bytes_eq n w))

-- a search that finds nothing passes the first name
passed : (i : ℕ) (n : List ℕ) (ns : List (List ℕ)) (w : List ℕ) → find_from i (n ∷ ns) w ≡ None → bytes_eq n w ≡ false
passed i n ns w e =
    ⊎_elim (λ t. let f : find_from i (n ∷ ns) w ≡ Some i = cond-true _ _ _ t in let z : ◌≡◌ {A = ℕ} 0 1 = cc in absurd (omega arith)) (λ f. f) (cases_Bool (bytes_eq n w))

none_from : (i k : ℕ) (ns : List (List ℕ)) (w : List ℕ) → find_from i ns w ≡ None → k < length ns → get_or ns k [] ≡ w → ⊥
none_from i k [] w e h d = omega arith
none_from i zero (n ∷ ns) w e h d = both_ways (bytes_eq n w) (passed i n ns w e) ((bytes_eq-Decides n w).1 d)
none_from i (suc k) (n ∷ ns) w e h d = none_from (i + 1) k ns w (sym (cond-false _ _ _ (passed i n ns w e)) ∙ e) (omega arith) d

pub find_at : (j : ℕ) (ns : List (List ℕ)) (w : List ℕ) → j < length ns → get_or ns j [] ≡ w → ((k : ℕ) → k < j → get_or ns k [] ≡ w → ⊥) → find ns w ≡ Some j
find_at j ns w h e before = first_found 0 j ns w h e before ∙ ap (λ k. Some k) (omega arith)

pub find_none : (ns : List (List ℕ)) (w : List ℕ) → ((k : ℕ) → k < length ns → get_or ns k [] ≡ w → ⊥) → find ns w ≡ None
find_none ns w h = nothing_found 0 ns w h

pub found_at : (l : ℕ) (ns : List (List ℕ)) (w : List ℕ) → find ns w ≡ Some l → (l < length ns) × (get_or ns l [] ≡ w)
found_at l ns w e = let r = found_from 0 l ns w e in let h : r.0 ≡ l = omega arith in (omega arith, ap (λ k. get_or ns k []) (sym h) ∙ r.3)

pub none_at : (ns : List (List ℕ)) (w : List ℕ) → find ns w ≡ None → (k : ℕ) → k < length ns → get_or ns k [] ≡ w → ⊥
none_at ns w e k = none_from 0 k ns w e

-- a search among the names that elements have
module _ {X : Type 0} (view : X → List ℕ) (w : List ℕ) where
  -- each name is that of the element at its place
  viewed : (xs : List X) (d : X) (k : ℕ) → k < length (map view xs) → (k < length xs) × (get_or (map view xs) k [] ≡ view (get_or xs k d))
  viewed xs d k lt = let here : k < length xs = omega (arith, length-map xs view) in (here, get_or-map view xs k d [] here)

  -- no element has the name, or the first that has it stands at i
  pub find_from_first : (xs : List X) (r : Option ℕ) → MatchOption r (AllWithin (λ x. view x ≡ w → ⊥) xs 0 (length xs)) (λ i. (i < length xs) × HoldsAt (λ x. view x ≡ w) xs i × AllWithin (λ x. view x ≡ w → ⊥) xs 0 i) → r ≡ find (map view xs) w
  find_from_first [] None h = refl
  find_from_first [] (Some i) h = absurd (omega (arith, h.0))
  find_from_first (x ∷ xs) None h = sym (find_none (map view (x ∷ xs)) w (λ k lt e. let v = viewed (x ∷ xs) x k lt in h k x (omega arith) v.0 (sym v.1 ∙ e)))
  find_from_first (x ∷ xs) (Some i) h =
      let here : i < length (map view (x ∷ xs)) = omega (arith, h.0, length-map (x ∷ xs) view) in
      sym (find_at i (map view (x ∷ xs)) w here ((viewed (x ∷ xs) x i here).1 ∙ h.1 x)
      (λ k lt e. h.2 k x (omega arith) lt (sym (viewed (x ∷ xs) x k (omega arith)).1 ∙ e)))
