-- The lowest bit past the inputs.
use Rattle.std.proofs.Common.{◌≡◌, ℕ, zero, suc, ◌+◌, ◌*◌, ◌/◌, ◌%◌, ◌^◌, ◌<◌, ◌≤◌, true, false, cond, Option, MatchOption, Some, None, refl, sym, ap, ◌∙◌, subst, ⊎_elim, add-zero, pow-suc, arith, pow_pos}
use Rattle.std.proofs.lemmas.Nat.{div_below, div-add-mod', mod_below}
use Rattle.std.proofs.lemmas.Option.{same_Some}
use Rattle.std.proofs.lemmas.Bool.{cases_eq, cases_lt, cases_Bool, eqb-false}
use Rattle.circuit.specs.Machines.{bit_of}
use Rattle.simulation.specs.Checks.{lowest}
use Rattle.simulation.specs.Laws.{LowestPast}

pub clash : {A : Type 0} → ◌≡◌ {A = ℕ} 0 1 → A
clash z = absurd (omega arith)

pub lowest_some : (m j v k : ℕ) → lowest m j v ≡ Some k → LowestPast j v k
lowest_some zero j v k e = clash (cc)
lowest_some (suc m) j v k e =
    ⊎_elim
    (λ (yes : bit_of v j ≡ true).
    let at : j ≡ k = same_Some j k (sym (ap (λ b. cond b (Some j) (lowest m (suc j) v)) yes) ∙ e) in
    record { past = omega arith; set = ap (bit_of v) (sym at) ∙ yes; lowest = λ i a b. absurd (omega arith) })
    (λ (no : bit_of v j ≡ false).
    let r = lowest_some m (suc j) v k (sym (ap (λ b. cond b (Some j) (lowest m (suc j) v)) no) ∙ e) in
    record {
      past = omega (arith, r.past);
      set = r.set;
      lowest = λ i a b. ⊎_elim (λ (at : i ≡ j). ap (bit_of v) at ∙ no) (λ (off : i ≡ j → ⊥). r.lowest i (omega (arith, off)) b) (cases_eq i j);
    })
    (cases_Bool (bit_of v j))

-- a number is the lowest bit if it is the first of a range at which the bit is 1
pub lowest_first : (m j v e : ℕ) (r : Option ℕ) → e ≡ j + m
    → MatchOption r ((k : ℕ) → j ≤ k → k < e → bit_of v k ≡ false) (λ i. (j ≤ i) × (i < e) × (bit_of v i ≡ true) × ((k : ℕ) → j ≤ k → k < i → bit_of v k ≡ false)) → r ≡ lowest m j v
lowest_first zero j v e None end h = refl
lowest_first zero j v e (Some i) end h = absurd (omega (arith, h.0, h.1))
lowest_first (suc m) j v e None end h =
    lowest_first m (suc j) v e None (omega arith) (λ k a b. h k (omega arith) b) ∙ sym (ap (λ b. cond b (Some j) (lowest m (suc j) v)) (h j (omega arith) (omega arith)))
lowest_first (suc m) j v e (Some i) end h =
    ⊎_elim
    (λ (at : i ≡ j). ap Some at ∙ sym (ap (λ b. cond b (Some j) (lowest m (suc j) v)) (ap (bit_of v) (sym at) ∙ h.2)))
    (λ (off : i ≡ j → ⊥).
    lowest_first m (suc j) v e (Some i) (omega arith) (omega (arith, h.0, off), h.1, h.2, λ k a b. h.3 k (omega arith) b)
    ∙ sym (ap (λ b. cond b (Some j) (lowest m (suc j) v)) (h.3 j (omega arith) (omega (arith, h.0, off)))))
    (cases_eq i j)

lowest_none : (m j v : ℕ) → lowest m j v ≡ None → (i : ℕ) → j ≤ i → i < j + m → bit_of v i ≡ false
lowest_none zero j v e i a b = absurd (omega arith)
lowest_none (suc m) j v e i a b =
    ⊎_elim
    (λ (yes : bit_of v j ≡ true). let found : Some j ≡ None = sym (ap (λ b. cond b (Some j) (lowest m (suc j) v)) yes) ∙ e in clash (cc))
    (λ (no : bit_of v j ≡ false).
    ⊎_elim (λ (at : i ≡ j). ap (bit_of v) at ∙ no)
    (λ (off : i ≡ j → ⊥). lowest_none m (suc j) v (sym (ap (λ b. cond b (Some j) (lowest m (suc j) v)) no) ∙ e) i (omega (arith, off)) (omega arith))
    (cases_eq i j))
    (cases_Bool (bit_of v j))

-- a number whose highest bit is 0 is below the half
halved : (n v : ℕ) → v < 2 ^ suc n → bit_of v n ≡ false → v < 2 ^ n
halved n v lt off =
    let two : v / 2 ^ n < 2 = div_below v (2 ^ n) 2 (pow_pos n) (omega (arith, pow-suc 2 n)) in
    let odd : v / 2 ^ n % 2 ≡ 1 → ⊥ = eqb-false (v / 2 ^ n % 2) 1 off in
    let none : v / 2 ^ n ≡ 0 = ⊎_elim (λ (z : v / 2 ^ n < 1). omega arith) (λ (o : 1 ≤ v / 2 ^ n). let one : v / 2 ^ n ≡ 1 = omega arith in absurd (odd (ap (λ x. x % 2) one))) (cases_lt (v / 2 ^ n) 1) in
    omega (arith, div-add-mod' v (2 ^ n), ap (λ q. q * 2 ^ n) none, mod_below v (2 ^ n) (pow_pos n))

cleared : (d n v : ℕ) → v < 2 ^ (n + d) → ((i : ℕ) → n ≤ i → i < n + d → bit_of v i ≡ false) → v < 2 ^ n
cleared zero n v lt none = subst (λ k. v < 2 ^ k) (add-zero n) lt
cleared (suc d) n v lt none =
    let on : n + suc d ≡ suc (n + d) = omega arith in
    cleared d n v (halved (n + d) v (subst (λ k. v < 2 ^ k) on lt) (none (n + d) (omega arith) (omega arith))) (λ i a b. none i a (omega arith))

pub lowest_clear : (d n v : ℕ) → v < 2 ^ (n + d) → lowest d n v ≡ None → v < 2 ^ n
lowest_clear d n v lt e = cleared d n v lt (lowest_none d n v e)
