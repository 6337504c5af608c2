-- The places of a line's tokens, and of what its statement is refused for.
use Rattle.std.proofs.Common.{◌≡◌, ℕ, zero, suc, ◌+◌, ◌<◌, ◌≤◌, Bool, true, false, cond, not, eqb, List, [], ◌∷◌, length, Some, None, Ok, Err, Option, Result, refl, ap, ◌∙◌, subst, arith}
use Rattle.std.specs.Option.{ok_or}
use Rattle.std.specs.List.{prefix_len, AllByRecursion}
use Rattle.std.proofs.lemmas.Bool.{both_ways, cond_both, eqb-true}
use Rattle.circuit.specs.Gates.{kind_of, fits}
use Rattle.circuit.specs.Refusals.{place_of}
use Rattle.circuit.specs.declared.refusals.Place.{Place}
use Rattle.circuit.specs.declared.refusals.Refusal.{Refusal}
use Rattle.circuit.specs.declared.refusals.Refusal.TheVariants.{NoKind, WrongPins}
use Rattle.netlist.specs.declared.statements.Form.{Form}
use Rattle.netlist.specs.declared.statements.Form.TheVariants.{OneInput, OneOutput, OneGate}
use Rattle.netlist.specs.declared.tokens.Sort.{Sort}
use Rattle.netlist.specs.declared.tokens.Sort.TheVariants.{Name, Open, Close, Comma, Equals, End}
use Rattle.texts.specs.Bytes.{name_byte, space_byte}
use Rattle.netlist.specs.Tokens.{Tok, Word, name, open_sign, close_sign, comma, equals, stray, end, sort_of, order, same_sort, at, words, line_tokens, is_end, first, after}
use Rattle.texts.specs.Steps.{bind, unless}
use Rattle.netlist.specs.Statements.{Named, want, want_name, one_name, next_pin, plus, more_pins, pins, labels, Stmt, blank, input, output, gate, gate_statement, form_of, by_form, statement_of}

-- P holds of the refusal, or Q of the result
pub data Either {X : Type 0} (P : Refusal → Type 0) (Q : X → Type 0) : Result X Refusal → Type 0 where
  taken : {x : X} → Q x → Either P Q (Ok x)
  refused : {e : Refusal} → P e → Either P Q (Err e)

abbrev pub Any : {X : Type 0} → X → Type 0
Any x = Unit {0}

pub either_refused : {X : Type 0} {P : Refusal → Type 0} {Q : X → Type 0} {e : Refusal} → Either P Q (Err e) → P e
either_refused (refused h) = h

pub either_weaker : {X : Type 0} {P R : Refusal → Type 0} {Q : X → Type 0} {r : Result X Refusal} → ((e : Refusal) → P e → R e) → Either P Q r → Either R Q r
either_weaker f (taken h) = taken h
either_weaker f (refused {e} h) = refused (f e h)

pub either_bind : {X Y : Type 0} {P : Refusal → Type 0} {Q : X → Type 0} {R : Y → Type 0} {r : Result X Refusal} {f : X → Result Y Refusal} → Either P Q r → ((x : X) → Q x → Either P R (f x)) → Either P R (bind r f)
either_bind (taken {x} h) k = k x h
either_bind (refused h) k = refused h

pub either_unless : {X : Type 0} {P : Refusal → Type 0} {Q : X → Type 0} (b : Bool) (d : Refusal) {r : Result X Refusal} → P d → Either P Q r → Either P Q (unless b d r)
either_unless true d h k = refused h
either_unless false d h k = k

pub either_ok_or : {X : Type 0} {P : Refusal → Type 0} (o : Option X) (d : Refusal) → P d → Either P Any (ok_or o d)
either_ok_or None d h = refused h
either_ok_or (Some x) d h = taken tt

end_order : (w : Word) → is_end w ≡ eqb (order (sort_of w)) 6
end_order (name bs) = refl
end_order open_sign = refl
end_order close_sign = refl
end_order comma = refl
end_order equals = refl
end_order (stray b) = refl
end_order end = refl

not_last : (w : Word) (s : Sort) → same_sort (sort_of w) s ≡ true → is_end w ≡ eqb (order s) 6
not_last w s h = end_order w ∙ ap (λ n. eqb n 6) (eqb-true (order (sort_of w)) (order s) h)

-- what G says of the places of the tokens it says of those of the statement
module _ (G : Place → Type 0) where
  -- each token up to the first end stands at such a place
  pub data Fine : List Tok → Type 0 where
    fine : {t : Tok} {ts : List Tok} → G t.place → (is_end t.word ≡ false → Fine ts) → Fine (t ∷ ts)

  abbrev pub Refused : Refusal → Type 0
  Refused e = G (place_of e)

  abbrev pub Stands : Named → Type 0
  Stands n = G n.place

  abbrev pub Names : Stmt → Type 0
  Names blank = Unit {0}
  Names (input n) = Stands n
  Names (output n) = Stands n
  Names (gate n k ns) = Stands n × AllByRecursion Stands ns

  first_place : {ts : List Tok} → Fine ts → G (first ts).place
  first_place (fine g r) = g

  rest_fine : {t : Tok} {ts : List Tok} → Fine (t ∷ ts) → is_end t.word ≡ false → Fine ts
  rest_fine (fine g r) e = r e

  after_fine : {ts : List Tok} → Fine ts → Fine (after ts)
  after_fine (fine {t} {ts} g r) = cond_both (is_end t.word) (t ∷ ts) ts Fine (λ _. fine g r) r

  want_place : {ts : List Tok} (s : Sort) → Fine ts → Either Refused Any (want (first ts) s)
  want_place {ts} s h = cond_both (same_sort (sort_of (first ts).word) s) _ _ (Either Refused Any) (λ _. taken tt) (λ _. refused (first_place h))

  -- the name's token is not the end
  abbrev GoesOn : Tok → Named → Type 0
  GoesOn t n = Stands n × (is_end t.word ≡ false)

  want_name_place : {ts : List Tok} → Fine ts → Either Refused (GoesOn (first ts)) (want_name (first ts))
  want_name_place {ts} h =
      let t = first ts in
      cond_both (same_sort (sort_of t.word) Name) _ _ (Either Refused (GoesOn t)) (λ e. taken (first_place h, not_last t.word Name e)) (λ _. refused (first_place h))

  one_name_place : {ts : List Tok} → Fine ts → Either Refused Stands (one_name ts)
  one_name_place h =
      let h₁ = after_fine h in
      let h₂ = after_fine h₁ in
      either_bind (want_place Open h) (λ _ _.
      either_bind (want_name_place h₁) (λ _ g.
      either_bind (want_place Close h₂) (λ _ _.
      either_bind (want_place End (after_fine h₂)) (λ _ _.
      taken g.0))))

  -- where another pin stands, neither of the two tokens is the end
  abbrev Pin : List Tok → Bool → Type 0
  Pin ts b = b ≡ true → (is_end (first ts).word ≡ false) × (is_end (first (after ts)).word ≡ false)

  next_pin_place : (ts : List Tok) → Fine ts → Either Refused (Pin ts) (next_pin ts)
  next_pin_place ts h =
      let w = (first ts).word in
      cond_both (same_sort (sort_of w) Comma) _ _ (Either Refused (Pin ts))
      (λ e. either_bind (want_name_place (after_fine h)) (λ _ n. taken (λ _. (not_last w Comma e, n.1))))
      (λ _. cond_both (same_sort (sort_of w) Close) _ _ (Either Refused (Pin ts))
      (λ _. either_bind (want_place End (after_fine h)) (λ _ _. taken (λ e. absurd (both_ways false refl e))))
      (λ _. refused (first_place h)))

  plus_place : (n : ℕ) {r : Result ℕ Refusal} → Either Refused Any r → Either Refused Any (plus n r)
  plus_place n (taken h) = taken tt
  plus_place n (refused h) = refused h

  past_pin : (s t : Tok) (ts : List Tok) → Fine (s ∷ t ∷ ts) → (is_end s.word ≡ false) × (is_end (first (after (s ∷ t ∷ ts))).word ≡ false) → Fine ts
  past_pin s t ts h e = rest_fine (rest_fine h e.0) (subst (λ b. is_end (first (cond b (s ∷ t ∷ ts) (t ∷ ts))).word ≡ false) e.0 e.1)

  more_pins_place : (ts : List Tok) → Fine ts → Either Refused Any (more_pins ts)
  more_pins_place [] h = elim h [ ]
  more_pins_place (s ∷ []) h = either_bind (next_pin_place (s ∷ []) h) (λ _ _. taken tt)
  more_pins_place (s ∷ t ∷ ts) h =
      either_bind (next_pin_place (s ∷ t ∷ ts) h) (λ b p.
      cond_both b _ _ (Either Refused Any) (λ e. plus_place 1 (more_pins_place ts (past_pin s t ts h (p e)))) (λ _. taken tt))

  pins_place : (ts : List Tok) → Fine ts → Either Refused Any (pins ts)
  pins_place ts h = either_bind (want_name_place h) (λ _ _. plus_place 1 (more_pins_place (after ts) (after_fine h)))

  labels_stand : (c : ℕ) (ts : List Tok) → Fine ts → AllByRecursion Stands (labels c ts)
  labels_stand zero ts h = tt
  labels_stand (suc c) ts h = (first_place h, labels_stand c (after (after ts)) (after_fine (after_fine h)))

  gate_place : (n : Named) (ts : List Tok) → Stands n → Fine ts → Either Refused Names (gate_statement n ts)
  gate_place n ts g h =
      let ts₃ = after (after (after ts)) in
      let h₁ = after_fine h in
      let h₂ = after_fine h₁ in
      let h₃ = after_fine h₂ in
      either_bind (want_place Equals h) (λ _ _.
      either_bind (want_name_place h₁) (λ w m.
      either_bind (want_place Open h₂) (λ _ _.
      either_bind (pins_place ts₃ h₃) (λ c _.
      either_bind (either_ok_or (kind_of w.bytes) (NoKind w.place) m.0) (λ k _.
      either_unless (not (fits k c)) (WrongPins w.place) m.0 (taken (g, labels_stand c ts₃ h₃)))))))

  form_place : (f : Form) (n : Named) (ts : List Tok) → Stands n → Fine ts → Either Refused Names (by_form f n ts)
  form_place OneInput n ts g h = either_bind (one_name_place h) (λ _ s. taken s)
  form_place OneOutput n ts g h = either_bind (one_name_place h) (λ _ s. taken s)
  form_place OneGate n ts g h = gate_place n ts g h

  pub statement_place : (ts : List Tok) → Fine ts → Either Refused Names (statement_of ts)
  statement_place ts h =
      cond_both (is_end (first ts).word) _ _ (Either Refused Names) (λ _. taken tt)
      (λ _. either_bind (want_name_place h) (λ n m. form_place (form_of n.bytes) n (after ts) m.0 (after_fine h)))

-- on that line, at one of the columns up to e
abbrev pub Spot : ℕ → ℕ → Place → Type 0
Spot l e p = (p.line ≡ l) × (1 ≤ p.column) × (p.column ≤ e)

end_fine : (l e : ℕ) → 1 ≤ e → Fine (Spot l e) (at l e end ∷ [])
end_fine l e h = fine (refl, h, omega arith) (λ n. absurd (both_ways true n refl))

words_fine : (l e k : ℕ) (bs : List ℕ) → length bs < e → Fine (Spot l e) (words l e k bs)
words_fine l e k [] h = end_fine l e (omega arith)
words_fine l e (suc k) (b ∷ bs) h = words_fine l e k bs (omega arith)
words_fine l e zero (b ∷ bs) h =
    cond_both (eqb b 35) _ _ (Fine (Spot l e)) (λ _. end_fine l e (omega arith))
    (λ _. cond_both (space_byte b) _ _ (Fine (Spot l e)) (λ _. words_fine l e 0 bs (omega arith))
    (λ _. fine (refl, omega arith, omega arith) (λ _. words_fine l e (cond (name_byte b) (prefix_len name_byte bs) 0) bs (omega arith))))

pub line_fine : (l : ℕ) (bs : List ℕ) → Fine (Spot l (length bs + 1)) (line_tokens l bs)
line_fine l bs = words_fine l (length bs + 1) 0 bs (omega arith)
