-- The bits of a word after the operations of a processor.
use Rattle.std.proofs.Common.{◌≡◌, ℕ, zero, suc, ◌+◌, ◌-◌, ◌/◌, ◌%◌, ◌^◌, ◌<◌, Bool, true, false, cond, not, ◌&&◌, ◌||◌, eqb, List, [], ◌∷◌, sym, refl, ap, ◌∙◌, subst, ⊎_elim, mod-eq_of_lt, one-mul, arith, pow_pos, pow-add}
use lib.Bits.{bit_and, bit_or, bit_xor, and_shr, or_shr, xor_shr, and_mod, or_mod, xor_mod, xor_add_and, and_mask, xor_comm, and_lt, or_lt, xor_lt}
use lib.Pow.{ones_split, high, ones_lt}
use Rattle.std.proofs.lemmas.Nat.{mod_below, div_below, shl-shr, pow_below}
use Rattle.std.proofs.lemmas.Bool.{cases_order, eq-eqb, ne_eqb}
use Rattle.std.proofs.Math.Bool.{not-not}
use Rattle.circuit.specs.Gates.{differs, all, any, odd, gate_on}
use Rattle.circuit.specs.Machines.{bit_of}
use Rattle.circuit.specs.declared.kinds.Kind.{Kind}

and2 : (x y : ℕ) → x < 2 → y < 2 → eqb (bit_and x y) 1 ≡ (eqb x 1 && eqb y 1)
and2 zero y hx hy = refl
and2 (suc zero) zero hx hy = refl
and2 (suc zero) (suc zero) hx hy = refl
and2 (suc zero) (suc (suc y)) hx hy = absurd (omega arith)
and2 (suc (suc x)) y hx hy = absurd (omega arith)

or2 : (x y : ℕ) → x < 2 → y < 2 → eqb (bit_or x y) 1 ≡ (eqb x 1 || eqb y 1)
or2 zero y hx hy = refl
or2 (suc zero) zero hx hy = refl
or2 (suc zero) (suc zero) hx hy = refl
or2 (suc zero) (suc (suc y)) hx hy = absurd (omega arith)
or2 (suc (suc x)) y hx hy = absurd (omega arith)

xor2 : (x y : ℕ) → x < 2 → y < 2 → eqb (bit_xor x y) 1 ≡ differs (eqb x 1) (eqb y 1)
xor2 zero y hx hy = refl
xor2 (suc zero) zero hx hy = refl
xor2 (suc zero) (suc zero) hx hy = refl
xor2 (suc zero) (suc (suc y)) hx hy = absurd (omega arith)
xor2 (suc (suc x)) y hx hy = absurd (omega arith)

or_pick : (a b : Bool) → (a || b) ≡ cond b true a
or_pick true true = refl
or_pick true false = refl
or_pick false true = refl
or_pick false false = refl

and_pick : (a b : Bool) → (a && not b) ≡ cond b false a
and_pick true true = refl
and_pick true false = refl
and_pick false true = refl
and_pick false false = refl

twice : (g b : Bool) → differs g (differs g b) ≡ b
twice true true = refl
twice true false = refl
twice false b = refl

two : (x : ℕ) → x % 2 < 2
two x = mod_below x 2 (omega arith)

pub bit_of_and : (a b l : ℕ) → bit_of (bit_and a b) l ≡ (bit_of a l && bit_of b l)
bit_of_and a b l = ap (λ (n : ℕ). eqb (n % 2) 1) (and_shr a b l) ∙ ap (λ (n : ℕ). eqb n 1) (and_mod (a / 2 ^ l) (b / 2 ^ l) 1) ∙ and2 _ _ (two (a / 2 ^ l)) (two (b / 2 ^ l))

pub bit_of_or : (a b l : ℕ) → bit_of (bit_or a b) l ≡ (bit_of a l || bit_of b l)
bit_of_or a b l = ap (λ (n : ℕ). eqb (n % 2) 1) (or_shr a b l) ∙ ap (λ (n : ℕ). eqb n 1) (or_mod (a / 2 ^ l) (b / 2 ^ l) 1) ∙ or2 _ _ (two (a / 2 ^ l)) (two (b / 2 ^ l))

pub bit_of_xor : (a b l : ℕ) → bit_of (bit_xor a b) l ≡ differs (bit_of a l) (bit_of b l)
bit_of_xor a b l = ap (λ (n : ℕ). eqb (n % 2) 1) (xor_shr a b l) ∙ ap (λ (n : ℕ). eqb n 1) (xor_mod (a / 2 ^ l) (b / 2 ^ l) 1) ∙ xor2 _ _ (two (a / 2 ^ l)) (two (b / 2 ^ l))

-- an odd number, one less than a power
odd_ones : (i : ℕ) → (2 ^ (i + 1) - 1) % 2 ≡ 1
odd_ones i = omega (arith, ones_split i 1)

ones_at : (j l : ℕ) → 0 < j → bit_of (2 ^ (j + l) - 1) l ≡ true
ones_at j l h =
    let up : (2 ^ (j + l) - 1) / 2 ^ l ≡ 2 ^ j - 1 = ap (λ (n : ℕ). n / 2 ^ l) (ones_split j l) ∙ high (2 ^ j - 1) l (ones_lt l) in
    let back : j ≡ (j - 1) + 1 = omega arith in
    let odd : (2 ^ j - 1) % 2 ≡ 1 = subst (λ (k : ℕ). (2 ^ k - 1) % 2 ≡ 1) (sym back) (odd_ones (j - 1)) in
    ap (λ (n : ℕ). eqb (n % 2) 1) up ∙ ap (λ (n : ℕ). eqb n 1) odd

-- all 64 bits set
pub bit_ones : (l : ℕ) → l < 64 → bit_of 18446744073709551615 l ≡ true
bit_ones l h =
    let whole : (64 - l) + l ≡ 64 = omega arith in
    subst (λ (k : ℕ). bit_of (2 ^ k - 1) l ≡ true) whole (ones_at (64 - l) l (omega arith))

pub bit_not : (a l : ℕ) → a < 2 ^ 64 → l < 64 → bit_of (18446744073709551615 - a) l ≡ not (bit_of a l)
bit_not a l fits h =
    let masked : bit_and a 18446744073709551615 ≡ a = and_mask a 64 ∙ mod-eq_of_lt fits in
    let e : 18446744073709551615 - a ≡ bit_xor a 18446744073709551615 = omega (arith, xor_add_and a 18446744073709551615) in
    ap (λ (n : ℕ). bit_of n l) (e ∙ xor_comm a 18446744073709551615) ∙ bit_of_xor 18446744073709551615 a l ∙ ap (λ (b : Bool). differs b (bit_of a l)) (bit_ones l h)

-- the word with bit n alone
pub bit_one : (n l : ℕ) → bit_of (2 ^ n) l ≡ eqb l n
bit_one n l =
    ⊎_elim
    (λ (e : l ≡ n). subst (λ (k : ℕ). bit_of (2 ^ n) k ≡ eqb k n) (sym e)
    (ap (λ (x : ℕ). eqb (x % 2) 1) (ap (λ (x : ℕ). x / 2 ^ n) (sym (one-mul (2 ^ n))) ∙ shl-shr 1 n) ∙ sym (eq-eqb n n (λ _. n))))
    (⊎_elim
    (λ (low : l < n).
    let whole : ((n - l - 1) + 1) + l ≡ n = omega arith in
    let even : (2 ^ ((n - l - 1) + 1)) % 2 ≡ 0 = omega (arith, pow-add 2 (n - l - 1) 1) in
    let up : 2 ^ (((n - l - 1) + 1) + l) / 2 ^ l ≡ 2 ^ ((n - l - 1) + 1) = ap (λ (x : ℕ). x / 2 ^ l) (pow-add 2 ((n - l - 1) + 1) l) ∙ shl-shr (2 ^ ((n - l - 1) + 1)) l in
    let at : 2 ^ n / 2 ^ l ≡ 2 ^ ((n - l - 1) + 1) = ap (λ (k : ℕ). 2 ^ k / 2 ^ l) (sym whole) ∙ up in
    ap (λ (x : ℕ). eqb (x % 2) 1) at ∙ ap (λ (x : ℕ). eqb x 1) even ∙ sym (ne_eqb l n (λ e. omega arith)))
    (λ (high : n < l).
    let none : 2 ^ n / 2 ^ l ≡ 0 = omega (arith, div_below (2 ^ n) (2 ^ l) 1 (pow_pos l) (omega (arith, pow_below n l high))) in
    ap (λ (x : ℕ). eqb (x % 2) 1) none ∙ sym (ne_eqb l n (λ e. omega arith))))
    (cases_order l n)

-- bit n set, and bit n cleared
pub put_one : (w n l : ℕ) → bit_of (bit_or w (2 ^ n)) l ≡ cond (eqb l n) true (bit_of w l)
put_one w n l = bit_of_or w (2 ^ n) l ∙ ap (λ (b : Bool). bit_of w l || b) (bit_one n l) ∙ or_pick (bit_of w l) (eqb l n)

pub put_zero : (w n l : ℕ) → n < 64 → l < 64 → bit_of (bit_and w (18446744073709551615 - 2 ^ n)) l ≡ cond (eqb l n) false (bit_of w l)
put_zero w n l hn hl =
    bit_of_and w (18446744073709551615 - 2 ^ n) l
    ∙ ap (λ (b : Bool). bit_of w l && b) (bit_not (2 ^ n) l (pow_below n 64 hn) hl ∙ ap not (bit_one n l)) ∙ and_pick (bit_of w l) (eqb l n)

-- four bits taken from the left, and as a list
all4 : (a b c d : Bool) → (((a && b) && c) && d) ≡ all (a ∷ b ∷ c ∷ d ∷ [])
all4 true true true true = refl
all4 true true true false = refl
all4 true true false d = refl
all4 true false c d = refl
all4 false b c d = refl

any4 : (a b c d : Bool) → (((a || b) || c) || d) ≡ any (a ∷ b ∷ c ∷ d ∷ [])
any4 false false false false = refl
any4 false false false true = refl
any4 false false true d = refl
any4 false true c d = refl
any4 true b c d = refl

odd_last : (a b : Bool) → differs a b ≡ odd (a ∷ b ∷ [])
odd_last true true = refl
odd_last true false = refl
odd_last false true = refl
odd_last false false = refl

odd3 : (a b c : Bool) → differs (differs a b) c ≡ odd (a ∷ b ∷ c ∷ [])
odd3 false b c = odd_last b c
odd3 true true c = sym (not-not c) ∙ ap (λ x. not (not x)) (odd_last false c)
odd3 true false c = ap not (odd_last false c)

odd4 : (a b c d : Bool) → differs (differs (differs a b) c) d ≡ odd (a ∷ b ∷ c ∷ d ∷ [])
odd4 false b c d = odd3 b c d
odd4 true true c d = odd_last c d ∙ sym (not-not (odd (c ∷ d ∷ [])))
odd4 true false true d = sym (not-not d) ∙ ap (λ x. not (not x)) (odd_last false d)
odd4 true false false d = ap not (odd_last false d)

and4 : (a b c d l : ℕ) → bit_of (bit_and (bit_and (bit_and a b) c) d) l ≡ (((bit_of a l && bit_of b l) && bit_of c l) && bit_of d l)
and4 a b c d l = simp bit_of_and

or4 : (a b c d l : ℕ) → bit_of (bit_or (bit_or (bit_or a b) c) d) l ≡ (((bit_of a l || bit_of b l) || bit_of c l) || bit_of d l)
or4 a b c d l = simp bit_of_or

xor4 : (a b c d l : ℕ) → bit_of (bit_xor (bit_xor (bit_xor a b) c) d) l ≡ differs (differs (differs (bit_of a l) (bit_of b l)) (bit_of c l)) (bit_of d l)
xor4 a b c d l = simp bit_of_xor

module _ (a b c d : ℕ) where
  abbrev bits : ℕ → List Bool
  bits l = bit_of a l ∷ bit_of b l ∷ bit_of c l ∷ bit_of d l ∷ []

  pub and_all : (l : ℕ) → bit_of (bit_and (bit_and (bit_and a b) c) d) l ≡ all (bits l)
  and_all l = and4 a b c d l ∙ all4 (bit_of a l) (bit_of b l) (bit_of c l) (bit_of d l)

  pub or_any : (l : ℕ) → bit_of (bit_or (bit_or (bit_or a b) c) d) l ≡ any (bits l)
  or_any l = or4 a b c d l ∙ any4 (bit_of a l) (bit_of b l) (bit_of c l) (bit_of d l)

  pub xor_odd : (l : ℕ) → bit_of (bit_xor (bit_xor (bit_xor a b) c) d) l ≡ odd (bits l)
  xor_odd l = xor4 a b c d l ∙ odd4 (bit_of a l) (bit_of b l) (bit_of c l) (bit_of d l)

  module _ (ha : a < 2 ^ 64) (hb : b < 2 ^ 64) (hc : c < 2 ^ 64) (hd : d < 2 ^ 64) where
    pub nand_all : (l : ℕ) → l < 64 → bit_of (18446744073709551615 - bit_and (bit_and (bit_and a b) c) d) l ≡ not (all (bits l))
    nand_all l h = bit_not _ l (and_lt 64 _ d (and_lt 64 _ c (and_lt 64 a b ha hb) hc) hd) h ∙ ap not (and_all l)

    pub nor_any : (l : ℕ) → l < 64 → bit_of (18446744073709551615 - bit_or (bit_or (bit_or a b) c) d) l ≡ not (any (bits l))
    nor_any l h = bit_not _ l (or_lt 64 _ d (or_lt 64 _ c (or_lt 64 a b ha hb) hc) hd) h ∙ ap not (or_any l)

    pub xnor_odd : (l : ℕ) → l < 64 → bit_of (18446744073709551615 - bit_xor (bit_xor (bit_xor a b) c) d) l ≡ not (odd (bits l))
    xnor_odd l h = bit_not _ l (xor_lt 64 _ d (xor_lt 64 _ c (xor_lt 64 a b ha hb) hc) hd) h ∙ ap not (xor_odd l)

pub differ_back : (g : Bool) (w x l : ℕ) → bit_of w l ≡ g → differs g (bit_of (bit_xor w x) l) ≡ bit_of x l
differ_back g w x l e = ap (differs g) (bit_of_xor w x l ∙ ap (λ (b : Bool). differs b (bit_of x l)) e) ∙ twice g (bit_of x l)

pub gate_same : (k : Kind) {a a' b b' c c' d d' : Bool} → a ≡ a' → b ≡ b' → c ≡ c' → d ≡ d' → gate_on k (a ∷ b ∷ c ∷ d ∷ []) ≡ gate_on k (a' ∷ b' ∷ c' ∷ d' ∷ [])
gate_same k p q r s i = gate_on k (p i ∷ q i ∷ r i ∷ s i ∷ [])
