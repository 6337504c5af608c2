-- The words of a statement, and the tests that tell them.
use Rattle.std.proofs.Common.{◌≡◌, ℕ, ◌+◌, Bool, true, false, cond, List, [], ◌∷◌, length, get_or, drop, Some, codes, Option, refl, ap, ◌∙◌, arith}
use Rattle.std.proofs.lemmas.List.{drop_all, drop_more}
use Rattle.std.proofs.lemmas.Bool.{cond_both, both_ways, eqb-true, and_parts}
use Rattle.circuit.specs.declared.kinds.Kind.{Kind}
use Rattle.circuit.specs.declared.kinds.Kind.TheVariants.{And, Nand, Or, Nor, Xor, Xnor, Not, Buff}
use Rattle.netlist.specs.declared.statements.Form.TheVariants.{OneGate}
use Rattle.netlist.specs.Tokens.{Word, name, close_sign, comma}
use Rattle.netlist.specs.Statements.{form_of}
use Rattle.circuit.specs.Gates.{kind_word, spells, kind_of}
use Rattle.netlist.specs.Grammar.{pin_words}

-- a text that passes the test of its bytes is those bytes
module _ (w : List ℕ) where
  spells_length : (i : ℕ) (bs : List ℕ) → spells w i bs ≡ true → length w ≡ i + length bs
  spells_length i [] h = omega (arith, eqb-true (length w) i h)
  spells_length i (b ∷ bs) h = omega (arith, spells_length (i + 1) bs (and_parts _ _ h).1)

  spells_drop : (i : ℕ) (bs : List ℕ) → spells w i bs ≡ true → drop i w ≡ bs
  spells_drop i [] h = drop_all i w (omega (arith, eqb-true (length w) i h))
  spells_drop i (b ∷ bs) h =
      let p = and_parts _ _ h in
      let n = spells_length i (b ∷ bs) h in
      let here = eqb-true (get_or w i 0) b p.0 in
      let more = spells_drop (i + 1) bs p.1 in
      drop_more w i 0 (omega arith) ∙ cc

  pub spells_is : (bs : List ℕ) → spells w 0 bs ≡ true → w ≡ bs
  spells_is bs h = spells_drop 0 bs h

pub spells_no : (w bs : List ℕ) → spells bs 0 bs ≡ true → spells w 0 bs ≡ false → w ≡ bs → ⊥
spells_no w bs t h e = both_ways _ h (ap (λ v. spells v 0 bs) e ∙ t)

pub kind_is : (k : Kind) → kind_of (kind_word k) ≡ Some k
kind_is And = refl
kind_is Nand = refl
kind_is Or = refl
kind_is Nor = refl
kind_is Xor = refl
kind_is Xnor = refl
kind_is Not = refl
kind_is Buff = refl

module _ (w : List ℕ) (k : Kind) where
  kind_or : (j : Kind) (o : Option Kind) → (o ≡ Some k → w ≡ kind_word k) → cond (spells w 0 (kind_word j)) (Some j) o ≡ Some k → w ≡ kind_word k
  kind_or j o more =
      cond_both (spells w 0 (kind_word j)) _ _ (λ r. r ≡ Some k → w ≡ kind_word k)
      (λ h e. let z : j ≡ k = cc in spells_is w (kind_word j) h ∙ ap kind_word z)
      (λ _. more)

  pub kind_back : kind_of w ≡ Some k → w ≡ kind_word k
  kind_back =
      kind_or And _ (kind_or Nand _ (kind_or Or _ (kind_or Nor _ (kind_or Xor _ (kind_or Xnor _ (kind_or Not _ (kind_or Buff _
      (λ e. absurd (cc)))))))))

cond_not : {X : Type 0} (b : Bool) (x y : X) → (b ≡ true → ⊥) → cond b x y ≡ y
cond_not true x y h = absurd (h refl)
cond_not false x y h = refl

pub form_gate : (w : List ℕ) → (w ≡ codes "INPUT" → ⊥) → (w ≡ codes "OUTPUT" → ⊥) → form_of w ≡ OneGate
form_gate w i o = cond_not _ _ _ (λ h. i (spells_is w _ h)) ∙ cond_not _ _ _ (λ h. o (spells_is w _ h))

-- the names after the first, each behind a comma, and the closing sign
abbrev pub more_words : List (List ℕ) → List Word
more_words [] = close_sign ∷ []
more_words (n ∷ ns) = comma ∷ name n ∷ more_words ns

pub pin_words_more : (n : List ℕ) (ns : List (List ℕ)) → pin_words (n ∷ ns) ≡ name n ∷ more_words ns
pin_words_more n [] = refl
pin_words_more n (m ∷ ns) = ap (λ ws. name n ∷ comma ∷ ws) (pin_words_more m ns)
