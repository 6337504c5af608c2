-- A vector is read as the number that its bytes spell.
use Rattle.std.proofs.Common.{◌≡◌, ℕ, zero, suc, ◌+◌, ◌-◌, ◌*◌, ◌/◌, ◌%◌, ◌^◌, ◌<◌, ◌≤◌, min, true, false, eqb, ltb, leb, List, [], ◌∷◌, length, get_or, Ok, Err, Result, sym, ap, ◌∙◌, subst, ⊎_elim, add-mul, mul-add, div-one, arith}
use native.Mathlib.Nat.{two-pow-succ}
use Rattle.std.proofs.lemmas.Bool.{cond-true, cond-false, cases_Bool, cases_eq, eq-eqb, ne_eqb, eqb-true, le-ltb, ltb-false, lt-leb, leb-false}
use Rattle.std.specs.List.{AllByRecursion}
use Rattle.textfiles.specs.Cursors.{Spot, skip, flaw}
use Rattle.textfiles.specs.Flaws.{Answers}
use Rattle.textfiles.specs.Items.{each, Accepts}
use Rattle.textfiles.specs.Vectors.{bits_on, vector_of, Spells}
use Rattle.textfiles.specs.declared.flaws.ReadError.{ReadError}
use Rattle.textfiles.specs.declared.flaws.What.TheVariants.{NotABit, ShortVector}
use Rattle.textfiles.proofs.BitTurns.{doubled}
use Rattle.textfiles.proofs.Digits.{half}
use Rattle.textfiles.proofs.EachItem.{accepts}
use Rattle.texts.proofs.Risen.{unless_ok}

abbrev Digits : List ℕ → Type 0
Digits bs = AllByRecursion (λ b. (48 ≤ b) × (b ≤ 49)) bs

-- the number of the digits, the first of which is bit 0
abbrev number : List ℕ → ℕ
number [] = 0
number (b ∷ bs) = (b - 48) + (number bs + number bs)

number_below : (bs : List ℕ) → Digits bs → number bs < 2 ^ length bs
number_below [] d = omega arith
number_below (b ∷ bs) d = let h = number_below bs d.1 in let low = d.0.0 in let high = d.0.1 in omega (arith, two-pow-succ (length bs))

number_bits : (bs : List ℕ) → Digits bs → (j : ℕ) → j < length bs → get_or bs j 0 ≡ 48 + number bs / 2 ^ j % 2
number_bits [] d j h = absurd (omega arith)
number_bits (b ∷ bs) d zero h = let low = d.0.0 in let high = d.0.1 in omega (arith, div-one (number (b ∷ bs)))
number_bits (b ∷ bs) d (suc j) h =
    let low = d.0.0 in
    let high = d.0.1 in
    let tail : number (b ∷ bs) / 2 ≡ number bs = omega arith in
    number_bits bs d.1 j (omega arith) ∙ ap (λ m. 48 + m % 2) (sym (half (number (b ∷ bs)) j ∙ ap (λ m. m / 2 ^ j) tail))

spelled_number : (bs : List ℕ) (v : ℕ) → v < 2 ^ length bs → ((j : ℕ) → j < length bs → get_or bs j 0 ≡ 48 + v / 2 ^ j % 2) → Digits bs × (v ≡ number bs)
spelled_number [] v below h = (tt, omega arith)
spelled_number (b ∷ bs) v below h =
    let first = h 0 (omega arith) in
    let whole = div-one v in
    let r = spelled_number bs (v / 2) (omega (arith, two-pow-succ (length bs))) (λ j k. h (suc j) (omega arith) ∙ ap (λ m. 48 + m % 2) (half v j)) in
    let rest = r.1 in
    (((omega arith, omega arith), r.0), omega arith)

-- a digit d at bit j in front of the digits of m
weighed : (d m j : ℕ) → 2 ^ j * (d + (m + m)) ≡ 2 ^ j * d + 2 ^ (j + 1) * m
weighed d m j = omega (arith, mul-add (2 ^ j) d (m + m), mul-add (2 ^ j) m m, add-mul (2 ^ j) (2 ^ j) m, ap (λ w. w * m) (doubled j))

-- the value with the digit b at bit j
abbrev with_digit : ℕ → ℕ → ℕ → ℕ
with_digit v b j = v + 2 ^ j * (b - 48)

module _ (n : ℕ) (s : Spot) where
  digit_step : (j v b : ℕ) (bs : List ℕ) → 48 ≤ b → b ≤ 49 → j < min n 64 → bits_on n s j v (b ∷ bs) ≡ bits_on n s (j + 1) (with_digit v b j) bs
  digit_step j v b bs low high room =
      cond-false _ _ _ (lt-leb (min n 64) j room)
      ∙ ⊎_elim
      (λ (is : b ≡ 48).
      let same : v ≡ with_digit v b j = let d : b - 48 ≡ 0 = omega arith in omega (arith, ap (λ k. 2 ^ j * k) d) in
      cond-true _ _ _ (eq-eqb b 48 is) ∙ ap (λ x. bits_on n s (j + 1) x bs) same)
      (λ (no : b ≡ 48 → ⊥).
      let is : b ≡ 49 = omega arith in
      let same : v + 2 ^ j ≡ with_digit v b j = let d : b - 48 ≡ 1 = omega arith in omega (arith, ap (λ k. 2 ^ j * k) d) in
      cond-false _ _ _ (ne_eqb b 48 no) ∙ cond-true _ _ _ (eq-eqb b 49 is) ∙ ap (λ x. bits_on n s (j + 1) x bs) same)
      (cases_eq b 48)

  bits_of : (j v : ℕ) (bs : List ℕ) → Digits bs → j + length bs ≡ n → n ≤ 64 → bits_on n s j v bs ≡ Ok (v + 2 ^ j * number bs)
  bits_of j v [] d long few = cond-false _ _ _ (le-ltb j n (omega arith)) ∙ ap (λ x. Ok x) (omega arith)
  bits_of j v (b ∷ bs) d long few =
      digit_step j v b bs d.0.0 d.0.1 (omega arith)
      ∙ bits_of (j + 1) (with_digit v b j) bs d.1 (omega arith) few
      ∙ ap (λ x. Ok x) (omega (arith, weighed (b - 48) (number bs) j))

  -- a byte that is passed is a digit
  digit_ok : (j v b x : ℕ) (bs : List ℕ) → bits_on n s j v (b ∷ bs) ≡ Ok x → (48 ≤ b) × (b ≤ 49) × (j < min n 64)
  digit_ok j v b x bs e =
      let u = unless_ok (leb (min n 64) j) _ _ x e in
      let room = leb-false (min n 64) j u.0 in
      ⊎_elim (λ (is : eqb b 48 ≡ true). let k = eqb-true b 48 is in (omega arith, omega arith, room))
      (λ (no : eqb b 48 ≡ false).
      ⊎_elim (λ (is : eqb b 49 ≡ true). let k = eqb-true b 49 is in (omega arith, omega arith, room))
      (λ (other : eqb b 49 ≡ false).
      let c : Err (flaw (skip j s) NotABit) ≡ Ok x = sym (cond-false _ _ _ other) ∙ sym (cond-false _ _ _ no) ∙ u.1 in
      let z : ◌≡◌ {A = ℕ} 0 1 = cc in
      absurd (omega arith))
      (cases_Bool (eqb b 49)))
      (cases_Bool (eqb b 48))

  bits_ok : (j v x : ℕ) (bs : List ℕ) → j ≤ min n 64 → bits_on n s j v bs ≡ Ok x → Digits bs × (j + length bs ≡ n) × (n ≤ 64) × (x ≡ v + 2 ^ j * number bs)
  bits_ok j v x [] room e =
      let u = unless_ok (ltb j n) (flaw s ShortVector) (Ok v) x e in
      let all = ltb-false j n u.0 in
      let last = u.1 in
      let same : v ≡ x = cc in
      (tt, omega arith, omega arith, omega arith)
  bits_ok j v x (b ∷ bs) room e =
      let d = digit_ok j v b x bs e in
      let r = bits_ok (j + 1) (with_digit v b j) x bs (omega arith) (sym (digit_step j v b bs d.0 d.1 d.2) ∙ e) in
      let value = r.3 in
      let size = r.1 in
      (((d.0, d.1), r.0), omega arith, r.2, omega (arith, weighed (b - 48) (number bs) j))

pub read_spelled : (n v : ℕ) (s : Spot) → Spells n s.rest v → vector_of n s ≡ Ok v
read_spelled n v s h =
    let bs = s.rest in
    let long = h.long in
    let r = spelled_number bs v (subst (λ k. v < 2 ^ k) (sym long) h.below) (λ j k. h.bits j (omega arith)) in
    let is = r.1 in
    bits_of n s 0 0 bs r.0 (omega arith) h.few ∙ ap (λ x. Ok x) (omega arith)

pub spelled_read : (n v : ℕ) (s : Spot) → vector_of n s ≡ Ok v → Spells n s.rest v
spelled_read n v s e =
    let bs = s.rest in
    let r = bits_ok n s 0 0 v bs (omega arith) e in
    let long : length bs ≡ n = let l = r.1 in omega arith in
    let same : number bs ≡ v = let l = r.3 in omega arith in
    record {
      few = r.2;
      long = long;
      below = subst (λ k. k < 2 ^ n) same (subst (λ k. number bs < 2 ^ k) long (number_below bs r.0));
      bits = λ j k. number_bits bs r.0 j (omega arith) ∙ ap (λ m. 48 + m / 2 ^ j % 2) same;
    }

pub vectors_accepted : (n : ℕ) {V : Type 0} (view : V → List ℕ) (ss : List Spot) (r : Result V ReadError) → Answers view r (each (vector_of n) [] ss) → Accepts view (λ s v. Spells n s.rest v) ss r
vectors_accepted n view ss r a = accepts (vector_of n) (λ s v. Spells n s.rest v) (λ s v h. read_spelled n v s h) (λ s v e. spelled_read n v s e) view ss r a
