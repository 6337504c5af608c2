-- One batch after the other: where each begins, and the last.
use Rattle.std.proofs.Common.{◌≡◌, ℕ, ◌+◌, ◌-◌, ◌*◌, ◌/◌, ◌%◌, ◌<◌, ◌≤◌, List, ◌++◌, map, length, take, drop, sym, refl, ap, ◌∙◌, subst, ap₂, ⊎_elim, mod-eq_of_lt, arith}
use native.Mathlib.Nat.{add-mod_right}
use Rattle.std.proofs.lemmas.Nat.{div-add-mod', div_below, div-mul-add}
use Rattle.std.proofs.lemmas.List.{take-append-drop, take-take, drop-take, drop-drop, drop_at, take_all, take_rest, length-append, length-map, length-drop, length-take-le, map-append}
use Rattle.std.proofs.lemmas.Slice.{take-put_mid, drop-put_mid}
use Rattle.std.proofs.lemmas.Bool.{cases_lt}
use borrow.Rule.Slice.PartMut.{put_mid}
use Rattle.simulation.specs.declared.listing.Listed.{Listed}
use Rattle.simulation.specs.Rows.{live, last_batch, front}
use Rattle.simulation.proofs.Fronts.{live_append, fronted, front_some}

-- where the last batch begins
last_start : (n k s : ℕ) → 0 < k → s % k ≡ 0 → s ≤ n → (0 < s → s < n) → n - s ≤ k → (n - 1) / k * k ≡ s
last_start n k s pos whole le inside near =
    let back : s / k * k ≡ s = omega (arith, div-add-mod' s k) in
    ⊎_elim
    (λ (none : n < 1).
    let zero : (n - 1) / k ≡ 0 = omega (arith, div_below (n - 1) k 1 pos (omega arith)) in
    ap (λ q. q * k) zero ∙ omega arith)
    (λ (some : 1 ≤ n).
    let first : s ≤ n - 1 = ⊎_elim (λ (z : s < 1). omega arith) (λ (p : 1 ≤ s). omega (arith, inside p)) (cases_lt s 1) in
    let split : n - 1 ≡ s / k * k + (n - 1 - s) = omega arith in
    let over : (n - 1) / k ≡ s / k = ap (λ x. x / k) split ∙ div-mul-add (s / k) k (n - 1 - s) (omega arith) in
    ap (λ q. q * k) over ∙ back)
    (cases_lt n 1)

-- the first s faults, and r more
pub take_both : {A : Type 0} (s r : ℕ) (xs : List A) → take (s + r) xs ≡ take s xs ++ take r (drop s xs)
take_both s r xs = sym (take-append-drop s (take (s + r) xs)) ∙ ap₂ ◌++◌ (take-take s (s + r) xs (omega arith)) (drop-take s r xs)

-- a batch begins at s: whole batches stand before it, and an undropped fault is left unless it is the first
pub record Begins (k : ℕ) (xs : List Listed) (s : ℕ) : Type 0 where
  pub within : s ≤ length xs
  pub whole : length (live (take s xs)) % k ≡ 0
  pub some : 0 < s → 0 < length (live (drop s xs))

-- what a batch takes of the faults from s on
pub front_here : (k n : ℕ) (xs : List Listed) (s r : ℕ) → n ≡ k → r ≡ front n (take (length xs - s) (drop s xs)) → r ≡ front k (drop s xs)
front_here k n xs s r lanes e = e ∙ ap₂ front lanes (take_rest xs s)

-- the part of a list from s up to s + r
pub part_is : {A : Type 0} (xs : List A) (s r : ℕ) → take (s + r - s) (drop s xs) ≡ take r (drop s xs)
part_is xs s r = let e : s + r - s ≡ r = omega arith in ap (λ n. take n (drop s xs)) e

pub part_length : {A : Type 0} (xs : List A) (s r : ℕ) → s + r ≤ length xs → length (take (s + r - s) (drop s xs)) ≡ r
part_length xs s r le = ap length (part_is xs s r) ∙ length-take-le r (drop s xs) (omega (arith, length-drop s xs))

pub begins_first : (k : ℕ) (xs : List Listed) → 0 < k → Begins k xs 0
begins_first k xs pos = record { within = omega arith; whole = mod-eq_of_lt pos; some = λ h. absurd (omega arith) }

module _ (k : ℕ) (xs : List Listed) (s r : ℕ) (pos : 0 < k) (b : Begins k xs s) (long : r ≡ front k (drop s xs)) where
  pub part_within : s + r ≤ length xs
  part_within = omega (arith, long, (fronted k (drop s xs)).within, length-drop s xs, b.within)

  pub part_few : length (live (take r (drop s xs))) ≤ k
  part_few = subst (λ n. length (live (take n (drop s xs))) ≤ k) (sym long) (fronted k (drop s xs)).few

  live_both : length (live (take (s + r) xs)) ≡ length (live (take s xs)) + length (live (take r (drop s xs)))
  live_both = ap (λ ys. length (live ys)) (take_both s r xs) ∙ ap length (live_append (take s xs) (take r (drop s xs))) ∙ length-append (live (take s xs)) (live (take r (drop s xs)))

  -- the next batch begins where this one ends, if faults are left
  pub begins_next : s + r < length xs → (s < s + r) × Begins k xs (s + r)
  begins_next left =
      let here : front k (drop s xs) < length (drop s xs) = omega (arith, long, length-drop s xs) in
      let full = (fronted k (drop s xs)).full here in
      let count : length (live (take r (drop s xs))) ≡ k = subst (λ n. length (live (take n (drop s xs))) ≡ k) (sym long) full.0 in
      let rest : 0 < length (live (drop r (drop s xs))) = subst (λ n. 0 < length (live (drop n (drop s xs)))) (sym long) full.1 in (
        omega (arith, long, front_some k (drop s xs) pos (omega arith)),
        record {
          within = omega arith;
          whole = ap (λ n. n % k) (live_both ∙ ap (λ n. length (live (take s xs)) + n) count) ∙ add-mod_right (length (live (take s xs))) k ∙ b.whole;
          some = λ _. subst (λ ys. 0 < length (live ys)) (drop-drop r s xs) rest;
        },
      )

  -- a batch after which no fault is left is the last
  pub last_here : s + r ≡ length xs → live (take r (drop s xs)) ≡ last_batch k (live xs)
  last_here end =
      let all : take r (drop s xs) ≡ drop s xs = take_all r (drop s xs) (omega (arith, length-drop s xs)) in
      let parts : live xs ≡ live (take s xs) ++ live (drop s xs) = ap live (sym (take-append-drop s xs)) ∙ live_append (take s xs) (drop s xs) in
      let sum = ap length parts ∙ length-append (live (take s xs)) (live (drop s xs)) in
      let few : length (live (drop s xs)) ≤ k = subst (λ ys. length (live ys) ≤ k) all part_few in
      let none : 0 < length (live (take s xs)) → 0 < length (live (drop s xs)) = λ h. ⊎_elim (λ (z : s < 1). let e : s ≡ 0 = omega arith in absurd (omega (arith, ap (λ n. length (live (take n xs))) e))) (λ (p : 1 ≤ s). b.some p) (cases_lt s 1) in
      let at = last_start (length (live xs)) k (length (live (take s xs))) pos b.whole (omega arith) (λ h. omega (arith, none h)) (omega arith) in
      ap live all ∙ sym (ap (λ n. drop n (live xs)) at ∙ ap (drop (length (live (take s xs)))) parts ∙ drop_at (live (take s xs)) (live (drop s xs)) (length (live (take s xs))) refl)

-- a row that was filled up to s with what F makes of the faults, filled by one part more
module _ (F : Listed → ℕ) (xs : List Listed) (s r : ℕ) (within : s + r ≤ length xs) (row new : List ℕ) (room : length xs ≤ length row)
    (told : new ≡ map F (take (s + r - s) (drop s xs))) where
  long : length new ≡ r
  long = ap length told ∙ length-map (take (s + r - s) (drop s xs)) F ∙ part_length xs s r within

  pub filled_more : take s row ≡ map F (take s xs) → take (s + r) (put_mid s (s + r - s) row new) ≡ map F (take (s + r) xs)
  filled_more done =
      take-put_mid s (s + r - s) row new (s + r) (omega (arith, long)) (omega arith) ∙ ap₂ ◌++◌ done (told ∙ ap (map F) (part_is xs s r))
      ∙ sym (ap (map F) (take_both s r xs) ∙ map-append F (take s xs) (take r (drop s xs)))

  pub rest_more : (first : List ℕ) → drop s row ≡ drop s first → drop (s + r) (put_mid s (s + r - s) row new) ≡ drop (s + r) first
  rest_more first old =
      drop-put_mid s (s + r - s) row new (s + r) (omega arith) (omega arith) (omega (arith, long)) ∙ sym (drop-drop r s row) ∙ ap (drop r) old ∙ drop-drop r s first

  pub filled_all : (first : List ℕ) → s + r ≡ length xs → take s row ≡ map F (take s xs) → drop s row ≡ drop s first
      → put_mid s (s + r - s) row new ≡ map F xs ++ drop (length xs) first
  filled_all first end done old =
      sym (take-append-drop (s + r) (put_mid s (s + r - s) row new))
      ∙ ap₂ ◌++◌ (filled_more done ∙ ap (λ n. map F (take n xs)) end ∙ ap (map F) (take_all (length xs) xs (omega arith))) (rest_more first old ∙ ap (λ n. drop n first) end)
