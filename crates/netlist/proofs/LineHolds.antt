-- A line that is read as a statement holds that statement.
use Rattle.std.proofs.Common.{◌≡◌, ℕ, zero, suc, ◌+◌, ◌≤◌, Bool, true, false, cond, not, eqb, ◌⊎◌, List, [], ◌∷◌, ◌++◌, map, length, get_or, Ok, Err, codes, Result, sym, refl, ap, ◌∙◌, subst, inl, inr, ⊎_elim, arith}
use Rattle.std.specs.List.{prefix_len, AllByRecursion}
use Rattle.std.proofs.lemmas.List.{length-map}
use Rattle.std.proofs.lemmas.Bool.{cond_both, both_ways, eqb-true, not-false}
use Rattle.circuit.specs.Gates.{kind_word, spells, kind_of, fits}
use Rattle.circuit.specs.declared.kinds.Kind.{Kind}
use Rattle.circuit.specs.declared.refusals.Refusal.{Refusal}
use Rattle.circuit.specs.declared.refusals.Refusal.TheVariants.{NoKind, WrongPins}
use Rattle.netlist.specs.declared.statements.Form.{Form}
use Rattle.netlist.specs.declared.tokens.Sort.{Sort}
use Rattle.netlist.specs.declared.tokens.Sort.TheVariants as sort
use Rattle.texts.specs.Bytes.{name_byte, space_byte}
use Rattle.netlist.specs.Tokens.{Tok, Word, name, open_sign, close_sign, comma, equals, stray, end, spelling, word_of, sort_of, order, same_sort, words, line_tokens, is_end, first, after}
use Rattle.netlist.specs.Statements as stmt
use Rattle.texts.specs.Steps.{bind, unless}
use Rattle.netlist.specs.Statements.{Named, want, want_name, one_name, next_pin, plus, more_pins, pins, labels, want_kind, Stmt, gate_statement, form_of, by_form, statement_of}
use Rattle.netlist.specs.Grammar.{Said, input, output, gate, pin_words, words_of, Proper, Holds, none, one}
use Rattle.netlist.proofs.Said.{bytes_at, said_of, Fitting}
use Rattle.texts.proofs.Risen.{bind_ok, unless_ok, ok_or_ok}
use Rattle.netlist.proofs.Gaps.{not_end}
use Rattle.netlist.proofs.Spelling.{said, Plain, words_spell}
use Rattle.netlist.proofs.LineWords.{spells_is, spells_no, kind_back, more_words, pin_words_more}

-- tokens of which the last, and no other, is the end
data Ends : List Tok → Type 0 where
  stop : (t : Tok) → t.word ≡ end → Ends (t ∷ [])
  more : (t : Tok) {ts : List Tok} → is_end t.word ≡ false → Ends ts → Ends (t ∷ ts)

words_end : (l e k : ℕ) (bs : List ℕ) → Ends (words l e k bs)
words_end l e k [] = stop _ refl
words_end l e (suc k) (b ∷ bs) = words_end l e k bs
words_end l e zero (b ∷ bs) =
    cond_both (eqb b 35) _ _ Ends (λ _. stop _ refl)
    (λ _. cond_both (space_byte b) _ _ Ends (λ _. words_end l e 0 bs)
    (λ _. more _ (not_end b bs) (words_end l e (cond (name_byte b) (prefix_len name_byte bs) 0) bs)))

-- the first of them, and those after it
end_first : {ts : List Tok} → Ends ts → is_end (first ts).word ≡ true → said ts ≡ end ∷ []
end_first (stop t e) h = ap (λ w. w ∷ []) e
end_first (more t n r) h = absurd (both_ways _ n h)

said_first : {ts : List Tok} (w : Word) → Ends ts → (first ts).word ≡ w → is_end w ≡ false → (said ts ≡ w ∷ said (after ts)) × Ends (after ts)
said_first w (stop t e) q n = absurd (both_ways _ n (ap is_end (sym q ∙ e)))
said_first w (more t {ts} n r) q f = rw (n, q) (refl, r)

-- a word is that of its sort and its bytes
sorted_is : (w : Word) → w ≡ word_of (sort_of w) (spelling w)
sorted_is (name bs) = refl
sorted_is open_sign = refl
sorted_is close_sign = refl
sorted_is comma = refl
sorted_is equals = refl
sorted_is (stray b) = refl
sorted_is end = refl

abbrev from_order : ℕ → Sort
from_order n = get_or (sort.Name ∷ sort.Open ∷ sort.Close ∷ sort.Comma ∷ sort.Equals ∷ sort.Stray ∷ []) n sort.End

from_order_is : (s : Sort) → from_order (order s) ≡ s
from_order_is sort.Name = refl
from_order_is sort.Open = refl
from_order_is sort.Close = refl
from_order_is sort.Comma = refl
from_order_is sort.Equals = refl
from_order_is sort.Stray = refl
from_order_is sort.End = refl

sort_same : (a b : Sort) → same_sort a b ≡ true → a ≡ b
sort_same a b h = sym (from_order_is a) ∙ ap from_order (eqb-true (order a) (order b) h) ∙ from_order_is b

word_sorted : (w : Word) (s : Sort) → same_sort (sort_of w) s ≡ true → w ≡ word_of s (spelling w)
word_sorted w s h = sorted_is w ∙ ap (λ a. word_of a (spelling w)) (sort_same (sort_of w) s h)

-- what went before a good result
cond_ok : {X : Type 0} (b : Bool) (x y : X) (d : Refusal) → cond b (Ok x) (Err d) ≡ Ok y → (b ≡ true) × (x ≡ y)
cond_ok true x y d e = (refl, cc)
cond_ok false x y d e = absurd (cc)

plus_ok : (r : Result ℕ Refusal) (n : ℕ) → plus 1 r ≡ Ok n → (m : ℕ) × (r ≡ Ok m) × (suc m ≡ n)
plus_ok (Ok m) n e = let z : 1 + m ≡ n = cc in (m, refl, omega arith)
plus_ok (Err d) n e = absurd (cc)

want_ok : (t : Tok) (s : Sort) (u : Unit {0}) → want t s ≡ Ok u → t.word ≡ word_of s (spelling t.word)
want_ok t s u e = word_sorted t.word s (cond_ok _ _ _ _ e).0

want_name_word : (t : Tok) (n : Named) → want_name t ≡ Ok n → t.word ≡ name (spelling t.word)
want_name_word t n e = word_sorted t.word sort.Name (cond_ok _ _ _ _ e).0

want_name_ok : (t : Tok) (n : Named) → want_name t ≡ Ok n → t.word ≡ name n.bytes
want_name_ok t n e = want_name_word t n e ∙ ap (λ m. name m.bytes) (cond_ok _ _ _ _ e).1

four_ok : {A B Y : Type 0} (r₀ : Result (Unit {0}) Refusal) (r₁ : Result A Refusal) (r₂ : Result (Unit {0}) Refusal) (r₃ : Result B Refusal) (f : A → B → Result Y Refusal) (y : Y) → bind r₀ (λ _. bind r₁ (λ a. bind r₂ (λ _. bind r₃ (f a)))) ≡ Ok y → (a : A) × (b : B) × (r₀ ≡ Ok tt) × (r₁ ≡ Ok a) × (r₂ ≡ Ok tt) × (r₃ ≡ Ok b) × (f a b ≡ Ok y)
four_ok (Err d) r₁ r₂ r₃ f y e = absurd (cc)
four_ok (Ok u) (Err d) r₂ r₃ f y e = absurd (cc)
four_ok (Ok u) (Ok a) (Err d) r₃ f y e = absurd (cc)
four_ok (Ok u) (Ok a) (Ok v) (Err d) f y e = absurd (cc)
four_ok (Ok u) (Ok a) (Ok v) (Ok b) f y e = (a, b, refl, refl, refl, refl, e)

three_said : (ts : List Tok) (v : Word) (n : List ℕ) (w : Word) → Ends ts → is_end v ≡ false → is_end w ≡ false → (first ts).word ≡ v → (first (after ts)).word ≡ name n → (first (after (after ts))).word ≡ w → (said ts ≡ v ∷ name n ∷ w ∷ said (after (after (after ts)))) × Ends (after (after (after ts)))
three_said ts v n w r f g a b c =
    let s₀ = said_first v r a f in
    let s₁ = said_first (name n) s₀.1 b refl in
    let s₂ = said_first w s₁.1 c g in
    (s₀.0 ∙ ap (λ ws. v ∷ ws) s₁.0 ∙ ap (λ ws. v ∷ name n ∷ ws) s₂.0, s₂.1)

one_name_ok : (ts : List Tok) (n : Named) → Ends ts → one_name ts ≡ Ok n → said ts ≡ open_sign ∷ name n.bytes ∷ close_sign ∷ end ∷ []
one_name_ok ts n r e =
    let ts₁ = after ts in
    let ts₂ = after ts₁ in
    let ts₃ = after ts₂ in
    let p = four_ok (want (first ts) sort.Open) (want_name (first ts₁)) (want (first ts₂) sort.Close) (want (first ts₃) sort.End) (λ m _. Ok m) n e in
    let z : p.0 ≡ n = cc p.6 in
    let s = three_said ts open_sign p.0.bytes close_sign r refl refl (want_ok (first ts) sort.Open tt p.2) (want_name_ok (first ts₁) p.0 p.3) (want_ok (first ts₂) sort.Close tt p.4) in
    s.0 ∙ ap (λ ws. open_sign ∷ name p.0.bytes ∷ close_sign ∷ ws) (end_first s.1 (ap is_end (want_ok (first ts₃) sort.End tt p.5))) ∙ ap (λ m. open_sign ∷ name m.bytes ∷ close_sign ∷ end ∷ []) z

-- after a pin: another, or the end
abbrev AfterPin : Tok → Tok → Bool → Type 0
AfterPin s t b = ((s.word ≡ comma) × (t.word ≡ name (spelling t.word)) × (b ≡ true)) ⊎ ((s.word ≡ close_sign) × (t.word ≡ end) × (b ≡ false))

next_pin_ok : (ts : List Tok) (b : Bool) → next_pin ts ≡ Ok b → AfterPin (first ts) (first (after ts)) b
next_pin_ok ts b =
    let s = first ts in
    let t = first (after ts) in
    let P : Result Bool Refusal → Type 0 = λ r. r ≡ Ok b → AfterPin s t b in
    cond_both (same_sort (sort_of s.word) sort.Comma) _ _ P
    (λ h e. let p = bind_ok (want_name t) (λ _. Ok true) b e in
    let z : b ≡ true = cc p.2 in
    inl (word_sorted s.word sort.Comma h, want_name_word t p.0 p.1, z))
    (λ _. cond_both (same_sort (sort_of s.word) sort.Close) _ _ P
    (λ h e. let p = bind_ok (want t sort.End) (λ _. Ok false) b e in
    let z : b ≡ false = cc p.2 in
    inr (word_sorted s.word sort.Close h, want_ok t sort.End tt p.1, z))
    (λ _ e. absurd (cc)))

ends_alone : {t : Tok} → Ends (t ∷ []) → t.word ≡ end
ends_alone (stop t e) = e
ends_alone (more t n r) = elim r [ ]

ends_after : {t : Tok} {ts : List Tok} → Ends (t ∷ ts) → is_end t.word ≡ false → Ends ts
ends_after (stop t e) n = absurd (both_ways _ n (ap is_end e))
ends_after (more t n r) _ = r

ends_more : {s t : Tok} {ts : List Tok} → Ends (s ∷ t ∷ ts) → is_end s.word ≡ false
ends_more (more s n r) = n

abbrev More : List Tok → ℕ → Type 0
More ts m = said ts ≡ more_words (map bytes_at (labels m (after ts))) ++ end ∷ []

module _ (s t : Tok) (ts : List Tok) (m : ℕ) (r : Ends (s ∷ t ∷ ts)) where
  pin_after : (b : Bool) → next_pin (s ∷ t ∷ ts) ≡ Ok b → AfterPin s t b
  pin_after b e = subst (λ v. AfterPin s (first (cond v (s ∷ t ∷ ts) (t ∷ ts))) b) (ends_more r) (next_pin_ok (s ∷ t ∷ ts) b e)

  more_last : s.word ≡ close_sign → t.word ≡ end → ◌≡◌ {A = Result ℕ Refusal} (Ok 0) (Ok m) → More (s ∷ t ∷ ts) m
  more_last a b e =
      let z : 0 ≡ m = cc in
      let w = end_first (ends_after r (ends_more r)) (ap is_end b) in
      rw (← z) (λ i. a i ∷ w i)

  more_next : ((k : ℕ) → Ends ts → more_pins ts ≡ Ok k → More ts k) → s.word ≡ comma → t.word ≡ name (spelling t.word) → plus 1 (more_pins ts) ≡ Ok m → More (s ∷ t ∷ ts) m
  more_next rest a b e =
      let p = plus_ok (more_pins ts) m e in
      let z = p.2 in
      let n = ends_more r in
      let f = ap is_end b in
      let w = rest p.0 (ends_after (ends_after r n) f) p.1 in
      rw (← z, n, f) (λ i. a i ∷ b i ∷ w i)

more_ok : (ts : List Tok) (m : ℕ) → Ends ts → more_pins ts ≡ Ok m → More ts m
more_ok [] m r e = absurd (cc)
more_ok (s ∷ []) m r e =
    let z = ends_alone r in
    let d = rw z at e in
    absurd (cc)
more_ok (s ∷ t ∷ ts) m r e =
    let f : Bool → Result ℕ Refusal = λ b. cond b (plus 1 (more_pins ts)) (Ok 0) in
    let p = bind_ok (next_pin (s ∷ t ∷ ts)) f m e in
    let now : (b : Bool) → p.0 ≡ b → f b ≡ Ok m = λ b h. ap f (sym h) ∙ p.2 in
    ⊎_elim
    (λ q. more_next s t ts m r (more_ok ts) q.0 q.1 (now true q.2))
    (λ q. more_last s t ts m r q.0 q.1 (now false q.2))
    (pin_after s t ts m r p.0 p.1)

length_labels : (n : ℕ) (ts : List Tok) → length (labels n ts) ≡ n
length_labels zero ts = refl
length_labels (suc n) ts = ap suc (length_labels n (after (after ts)))

pins_ok : (ts : List Tok) (m : ℕ) → Ends ts → pins ts ≡ Ok m → (1 ≤ m) × (said ts ≡ pin_words (map bytes_at (labels m ts)) ++ end ∷ [])
pins_ok ts m r e =
    let p = bind_ok (want_name (first ts)) (λ _. plus 1 (more_pins (after ts))) m e in
    let q = plus_ok (more_pins (after ts)) m p.2 in
    let z = q.2 in
    let s = said_first (name (spelling (first ts).word)) r (want_name_word (first ts) p.0 p.1) refl in
    let w = more_ok (after ts) q.0 s.1 q.1 in
    (omega arith, rw (← z, pin_words_more) (s.0 ∙ ap (λ ws. name (spelling (first ts).word) ∷ ws) w))

-- the words are those of the statement, or the end alone
abbrev Told : List Word → List Said → Type 0
Told ws [] = ws ≡ end ∷ []
Told ws (s ∷ []) = Proper s × Fitting s × (ws ≡ words_of s ++ end ∷ [])
Told ws (s ∷ t ∷ ss) = ⊥

module _ (n : Named) (ts : List Tok) (st : Stmt) (r : Ends ts) where
  gate_told : spells n.bytes 0 (codes "INPUT") ≡ false → spells n.bytes 0 (codes "OUTPUT") ≡ false → gate_statement n ts ≡ Ok st → Told (name n.bytes ∷ said ts) (said_of st)
  gate_told i o e =
      let ts₁ = after ts in
      let ts₂ = after ts₁ in
      let ts₃ = after ts₂ in
      let f : ℕ → Named → Kind → Result Stmt Refusal = λ c w k. unless (not (fits k c)) (WrongPins w.place) (Ok (stmt.gate n k (labels c ts₃))) in
      let p = four_ok (want (first ts) sort.Equals) (want_name (first ts₁)) (want (first ts₂) sort.Open) (pins ts₃) (λ w c. bind (want_kind w) (f c w)) st e in
      let w = p.0 in
      let c = p.1 in
      let q = bind_ok (want_kind w) (f c w) st p.6 in
      let k = q.0 in
      let ns = map bytes_at (labels c ts₃) in
      let u = unless_ok (not (fits k c)) (WrongPins w.place) (Ok (stmt.gate n k (labels c ts₃))) st q.2 in
      let z : stmt.gate n k (labels c ts₃) ≡ st = cc u.1 in
      let s = three_said ts equals w.bytes open_sign r refl refl (want_ok (first ts) sort.Equals tt p.2) (want_name_ok (first ts₁) w p.3) (want_ok (first ts₂) sort.Open tt p.4) in
      let ps = pins_ok ts₃ c s.1 p.5 in
      let g = kind_back w.bytes k (ok_or_ok (kind_of w.bytes) (NoKind w.place) k q.1) in
      let many : length ns ≡ c = length-map (labels c ts₃) bytes_at ∙ length_labels c ts₃ in
      let said-is : said ts ≡ equals ∷ name (kind_word k) ∷ open_sign ∷ pin_words ns ++ end ∷ [] = s.0 ∙ (λ j. equals ∷ name (g j) ∷ open_sign ∷ ps.1 j) in
      subst (λ v. Told (name n.bytes ∷ said ts) (said_of v)) z
      ((omega (arith, many, ps.0), spells_no n.bytes _ refl i, spells_no n.bytes _ refl o), ap (fits k) many ∙ not-false _ u.0, ap (λ ws. name n.bytes ∷ ws) said-is)

  one_told : (bs : List ℕ) (f : Named → Stmt) → spells n.bytes 0 bs ≡ true → ((m : Named) → Told (name bs ∷ open_sign ∷ name m.bytes ∷ close_sign ∷ end ∷ []) (said_of (f m))) → bind (one_name ts) (λ m. Ok (f m)) ≡ Ok st → Told (name n.bytes ∷ said ts) (said_of st)
  one_told bs f h told e =
      let p = bind_ok (one_name ts) (λ m. Ok (f m)) st e in
      let m = p.0 in
      let z : f m ≡ st = cc p.2 in
      let w = one_name_ok ts m r p.1 in
      let g = spells_is n.bytes bs h in
      subst (λ v. Told (name n.bytes ∷ said ts) (said_of v)) z
      (subst (λ ws. Told ws (said_of (f m))) (λ j. name (sym g j) ∷ sym w j) (told m))

  form_told : by_form (form_of n.bytes) n ts ≡ Ok st → Told (name n.bytes ∷ said ts) (said_of st)
  form_told =
      let P : Form → Type 0 = λ f. by_form f n ts ≡ Ok st → Told (name n.bytes ∷ said ts) (said_of st) in
      cond_both (spells n.bytes 0 (codes "INPUT")) _ _ P
      (λ h. one_told (codes "INPUT") (λ m. stmt.input m) h (λ m. (tt, tt, refl)))
      (λ i. cond_both (spells n.bytes 0 (codes "OUTPUT")) _ _ P
      (λ h. one_told (codes "OUTPUT") (λ m. stmt.output m) h (λ m. (tt, tt, refl)))
      (λ o. gate_told i o))

statement_told : (ts : List Tok) (st : Stmt) → Ends ts → statement_of ts ≡ Ok st → Told (said ts) (said_of st)
statement_told ts st r =
    let f : Named → Result Stmt Refusal = λ n. by_form (form_of n.bytes) n (after ts) in
    cond_both (is_end (first ts).word) _ _ (λ v. v ≡ Ok st → Told (said ts) (said_of st))
    (λ h e. let z : stmt.blank ≡ st = cc in subst (λ v. Told (said ts) (said_of v)) z (end_first r h))
    (λ _ e. let p = bind_ok (want_name (first ts)) f st e in
    let s = said_first (name p.0.bytes) r (want_name_ok (first ts) p.0 p.1) refl in
    subst (λ ws. Told ws (said_of st)) (sym s.0) (form_told p.0 (after ts) st s.1 p.2))

pins_plain : (ns : List (List ℕ)) → AllByRecursion Plain (pin_words ns)
pins_plain [] = (tt, tt)
pins_plain (n ∷ []) = (tt, (tt, tt))
pins_plain (n ∷ m ∷ ns) = (tt, (tt, pins_plain (m ∷ ns)))

words_plain : (s : Said) → AllByRecursion Plain (words_of s)
words_plain (input n) = (tt, (tt, (tt, (tt, tt))))
words_plain (output n) = (tt, (tt, (tt, (tt, tt))))
words_plain (gate n k ns) = (tt, (tt, (tt, (tt, pins_plain ns))))

told_holds : (l e : ℕ) (bs : List ℕ) (ss : List Said) → Told (said (words l e 0 bs)) ss → Holds bs ss × AllByRecursion Fitting ss
told_holds l e bs [] q = (none (words_spell l e bs [] tt q), tt)
told_holds l e bs (s ∷ []) q = (one q.0 (words_spell l e bs (words_of s) (words_plain s) q.2), (q.1, tt))
told_holds l e bs (s ∷ t ∷ ss) q = absurd q

pub line_holds : (l : ℕ) (bs : List ℕ) (st : Stmt) → statement_of (line_tokens l bs) ≡ Ok st → Holds bs (said_of st) × AllByRecursion Fitting (said_of st)
line_holds l bs st e = told_holds l _ bs (said_of st) (statement_told (line_tokens l bs) st (words_end l _ 0 bs) e)
