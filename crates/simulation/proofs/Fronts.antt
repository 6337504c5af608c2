-- Which of the listed faults one batch takes.
use Rattle.std.proofs.Common.{◌≡◌, ℕ, suc, ◌+◌, ◌-◌, ◌<◌, ◌≤◌, Bool, true, false, not, cond, eqb, Option, Some, None, List, [], ◌∷◌, ◌++◌, length, get_or, take, drop, sym, refl, ap, ◌∙◌, subst, ⊎_elim, zero-add, arith}
use Rattle.std.specs.List.{slice_get, filter, enumerate_from}
use Rattle.std.proofs.lemmas.List.{at_drop_more, length-append}
use Rattle.std.proofs.lemmas.Bool.{cases_eq, cases_Bool, eq-eqb, ne_eqb}
use Rattle.circuit.specs.declared.faults.Fault.{Fault}
use Rattle.simulation.specs.declared.listing.Listed.{Listed}
use Rattle.simulation.specs.Rows.{live, front}

pub live_append : (xs ys : List Listed) → live (xs ++ ys) ≡ live xs ++ live ys
live_append [] ys = refl
live_append (x ∷ xs) ys =
    ⊎_elim (λ (e : x.dropped ≡ true). rw e (live_append xs ys)) (λ (e : x.dropped ≡ false). rw e (ap (λ fs. x.fault ∷ fs) (live_append xs ys))) (cases_Bool x.dropped)

-- the first n faults hold k undropped ones at most, and k where an undropped one is left out
pub record Fronted (k : ℕ) (xs : List Listed) (n : ℕ) : Type 0 where
  pub within : n ≤ length xs
  pub few : length (live (take n xs)) ≤ k
  pub full : n < length xs → (length (live (take n xs)) ≡ k) × (0 < length (live (drop n xs)))

module _ (k : ℕ) (x : Listed) (xs : List Listed) where
  abbrev step : Bool → Bool → ℕ
  step b c = cond b (suc (front k xs)) (cond c 0 (suc (front (k - 1) xs)))

  on_dropped : x.dropped ≡ true → front k (x ∷ xs) ≡ suc (front k xs)
  on_dropped e = ap (λ b. step b (eqb k 0)) e

  on_full : x.dropped ≡ false → k ≡ 0 → front k (x ∷ xs) ≡ 0
  on_full e z = ap (λ b. step b (eqb k 0)) e ∙ ap (step false) (eq-eqb k 0 z)

  on_more : x.dropped ≡ false → (k ≡ 0 → ⊥) → front k (x ∷ xs) ≡ suc (front (k - 1) xs)
  on_more e ne = ap (λ b. step b (eqb k 0)) e ∙ ap (step false) (ne_eqb k 0 ne)

  live_off : (ys : List Listed) → x.dropped ≡ true → live (x ∷ ys) ≡ live ys
  live_off ys e = ap (λ b. cond b (live ys) (x.fault ∷ live ys)) e

  live_on : (ys : List Listed) → x.dropped ≡ false → live (x ∷ ys) ≡ x.fault ∷ live ys
  live_on ys e = ap (λ b. cond b (live ys) (x.fault ∷ live ys)) e

  fronted_dropped : x.dropped ≡ true → Fronted k xs (front k xs) → Fronted k (x ∷ xs) (suc (front k xs))
  fronted_dropped e f =
      let off = live_off (take (front k xs) xs) e in
      record {
        within = omega (arith, f.within);
        few = omega (arith, ap length off, f.few);
        full = λ h. let g = f.full (omega arith) in (ap length off ∙ g.0, g.1);
      }

  fronted_full : x.dropped ≡ false → k ≡ 0 → Fronted k (x ∷ xs) 0
  fronted_full e z =
      record {
        within = omega arith;
        few = omega arith;
        full = λ h. (sym z, omega (arith, ap length (live_on xs e)));
      }

  fronted_more : x.dropped ≡ false → (k ≡ 0 → ⊥) → Fronted (k - 1) xs (front (k - 1) xs) → Fronted k (x ∷ xs) (suc (front (k - 1) xs))
  fronted_more e ne f =
      let on = live_on (take (front (k - 1) xs) xs) e in
      record {
        within = omega (arith, f.within);
        few = omega (arith, ap length on, f.few, ne);
        full = λ h. let g = f.full (omega arith) in (omega (arith, ap length on, g.0, ne), g.1);
      }

pub fronted : (k : ℕ) (xs : List Listed) → Fronted k xs (front k xs)
fronted k [] = record { within = omega arith; few = omega arith; full = λ h. absurd (omega arith) }
fronted k (x ∷ xs) =
    ⊎_elim
    (λ (e : x.dropped ≡ true). subst (Fronted k (x ∷ xs)) (sym (on_dropped k x xs e)) (fronted_dropped k x xs e (fronted k xs)))
    (λ (e : x.dropped ≡ false).
    ⊎_elim
    (λ (z : k ≡ 0). subst (Fronted k (x ∷ xs)) (sym (on_full k x xs e z)) (fronted_full k x xs e z))
    (λ (ne : k ≡ 0 → ⊥). subst (Fronted k (x ∷ xs)) (sym (on_more k x xs e ne)) (fronted_more k x xs e ne (fronted (k - 1) xs)))
    (cases_eq k 0))
    (cases_Bool x.dropped)

-- a batch takes one fault at least
pub front_some : (k : ℕ) (xs : List Listed) → 0 < k → 0 < length xs → 0 < front k xs
front_some k [] pos h = absurd (omega arith)
front_some k (x ∷ xs) pos h =
    ⊎_elim
    (λ (e : x.dropped ≡ true). omega (arith, on_dropped k x xs e))
    (λ (e : x.dropped ≡ false). omega (arith, on_more k x xs e (λ z. omega arith)))
    (cases_Bool x.dropped)

-- the number of an entry, or another where there is none
abbrev pub place : ℕ → Option (ℕ × Listed) → ℕ
place n None = n
place n (Some x) = x.0

-- a batch ends at the undropped fault that finds k others there
nth_front : (k n : ℕ) (xs : List Listed) → place (n + length xs) (slice_get (filter (λ y. not y.1.dropped) (enumerate_from n xs)) k) ≡ n + front k xs
nth_front k n [] = refl
nth_front k n (x ∷ xs) =
    let left = filter (λ y. not y.1.dropped) (enumerate_from (n + 1) xs) in
    let on : n + length (x ∷ xs) ≡ n + 1 + length xs = omega arith in
    ⊎_elim
    (λ (e : x.dropped ≡ true).
    ap (λ b. place (n + length (x ∷ xs)) (slice_get (cond (not b) ((n, x) ∷ left) left) k)) e
    ∙ ap (λ m. place m (slice_get left k)) on ∙ omega (arith, nth_front k (n + 1) xs, on_dropped k x xs e))
    (λ (e : x.dropped ≡ false).
    ap (λ b. place (n + length (x ∷ xs)) (slice_get (cond (not b) ((n, x) ∷ left) left) k)) e
    ∙ ⊎_elim
    (λ (z : k ≡ 0). ap (λ j. place (n + length (x ∷ xs)) (slice_get ((n, x) ∷ left) j)) z ∙ omega (arith, on_full k x xs e z))
    (λ (ne : k ≡ 0 → ⊥).
    let back : suc (k - 1) ≡ k = omega (arith, ne) in
    ap (λ j. place (n + length (x ∷ xs)) (slice_get ((n, x) ∷ left) j)) (sym back) ∙ ap (λ m. place m (slice_get left (k - 1))) on
    ∙ omega (arith, nth_front (k - 1) (n + 1) xs, on_more k x xs e ne))
    (cases_eq k 0))
    (cases_Bool x.dropped)

pub front_nth : (k : ℕ) (xs : List Listed) → place (length xs) (slice_get (filter (λ y. not y.1.dropped) (enumerate_from 0 xs)) k) ≡ front k xs
front_nth k xs =
    ap (λ n. place n (slice_get (filter (λ y. not y.1.dropped) (enumerate_from 0 xs)) k)) (sym (zero-add (length xs))) ∙ nth_front k 0 xs ∙ zero-add (front k xs)

-- what is left of a list, at its first fault
module _ (xs : List Listed) (i : ℕ) (x : Listed) (h : i < length xs) where
  pub live_dropped : (get_or xs i x).dropped ≡ true → live (drop i xs) ≡ live (drop (i + 1) xs)
  live_dropped e = at_drop_more live xs i x h ∙ ap (λ b. cond b (live (drop (i + 1) xs)) ((get_or xs i x).fault ∷ live (drop (i + 1) xs))) e

  pub live_taken : (get_or xs i x).dropped ≡ false → live (drop i xs) ≡ (get_or xs i x).fault ∷ live (drop (i + 1) xs)
  live_taken e = at_drop_more live xs i x h ∙ ap (λ b. cond b (live (drop (i + 1) xs)) ((get_or xs i x).fault ∷ live (drop (i + 1) xs))) e

  -- there is room for one fault more
  pub live_room : (fs all : List Fault) (n : ℕ) → (get_or xs i x).dropped ≡ false → fs ++ live (drop i xs) ≡ all → length all ≤ n → length fs < n
  live_room fs all n e whole le =
      omega (arith, ap length (ap (λ gs. fs ++ gs) (sym (live_taken e)) ∙ whole), length-append fs ((get_or xs i x).fault ∷ live (drop (i + 1) xs)))
