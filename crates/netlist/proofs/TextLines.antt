-- The lines of a text, and the statements they are read as.
use Rattle.std.proofs.Common.{◌≡◌, ℕ, suc, ◌+◌, ◌≤◌, true, false, eqb, List, [], ◌∷◌, ◌++◌, length, take, drop, Ok, Err, Result, sym, refl, ap, ◌∙◌, subst, ⊎_elim, arith}
use Rattle.std.proofs.lemmas.List.{append_assoc, append-nil, take_at, take_all, drop_all, drop_at, length-append}
use Rattle.std.proofs.ByRecursion.{All-append}
use Rattle.std.proofs.lemmas.Bool.{cases_Bool, eqb-true, not-false}
use Rattle.std.specs.List.{prefix_len, flat_map, AllByRecursion}
use Rattle.circuit.specs.declared.refusals.Refusal.{Refusal}
use Rattle.netlist.specs.Tokens.{line_tokens, Word, name, open_sign, close_sign, comma, equals, stray, end, spelling}
use Rattle.texts.specs.Steps.{bind}
use Rattle.netlist.specs.Statements.{Stmt, statement_of}
use Rattle.texts.specs.Lines.{in_line, lines_of}
use Rattle.netlist.specs.Reading.{tell}
use Rattle.netlist.specs.Grammar.{Said, input, output, gate, words_of, Written, Spells, nothing, comment, separator, word, Holds, none, one, Text, last, line}
use Rattle.netlist.proofs.Said.{said_of, Fitting, LineLaw}
use Rattle.texts.proofs.Risen.{bind_ok}
use Rattle.texts.proofs.LineTurns.{lines_turn}
use Rattle.texts.proofs.Fronts.{run_front}

-- a text and its lines; a last line that is empty is none
data Lines : List ℕ → List (List ℕ) → Type 0 where
  no_line : Lines [] []
  one_line : {b : ℕ} {bs : List ℕ} → AllByRecursion (λ b. in_line b ≡ true) (b ∷ bs) → Lines (b ∷ bs) ((b ∷ bs) ∷ [])
  more : {bs rest : List ℕ} {ls : List (List ℕ)} → AllByRecursion (λ b. in_line b ≡ true) bs → Lines rest ls → Lines (bs ++ 10 ∷ rest) (bs ∷ ls)

lines_one : (b : ℕ) (bs : List ℕ) → AllByRecursion (λ b. in_line b ≡ true) (b ∷ bs) → lines_of (b ∷ bs) ≡ (b ∷ bs) ∷ []
lines_one b bs h =
    let r : prefix_len in_line (b ∷ bs) ≡ length (b ∷ bs) = ap (prefix_len in_line) (sym (append-nil (b ∷ bs))) ∙ run_front in_line (b ∷ bs) [] h refl in
    let n = prefix_len in_line (b ∷ bs) in
    let t : take n (b ∷ bs) ≡ b ∷ bs = take_all n (b ∷ bs) (omega arith) in
    let d : drop (suc n) (b ∷ bs) ≡ [] = drop_all (suc n) (b ∷ bs) (omega arith) in
    lines_turn (b ∷ bs) (omega arith) ∙ ap (λ x. x ∷ lines_of (drop (suc n) (b ∷ bs))) t ∙ ap (λ x. (b ∷ bs) ∷ lines_of x) d

lines_more : (bs rest : List ℕ) → AllByRecursion (λ b. in_line b ≡ true) bs → lines_of (bs ++ 10 ∷ rest) ≡ bs ∷ lines_of rest
lines_more bs rest h =
    let s = bs ++ 10 ∷ rest in
    let r = run_front in_line bs (10 ∷ rest) h refl in
    let t : take (prefix_len in_line s) s ≡ bs = take_at bs (10 ∷ rest) _ (sym r) in
    let e : s ≡ (bs ++ 10 ∷ []) ++ rest = sym (append_assoc bs (10 ∷ []) rest) in
    let n : length (bs ++ 10 ∷ []) ≡ suc (prefix_len in_line s) = omega (arith, length-append bs (10 ∷ [])) in
    let d : drop (suc (prefix_len in_line s)) s ≡ rest = ap (drop (suc (prefix_len in_line s))) e ∙ drop_at (bs ++ 10 ∷ []) rest _ n in
    lines_turn s (omega (arith, length-append bs (10 ∷ rest))) ∙ ap (λ x. x ∷ lines_of (drop (suc (prefix_len in_line s)) s)) t ∙ ap (λ x. bs ∷ lines_of x) d

lines_are : {text : List ℕ} {ls : List (List ℕ)} → Lines text ls → lines_of text ≡ ls
lines_are no_line = refl
lines_are (one_line {b} {bs} h) = lines_one b bs h
lines_are (more {bs} {rest} h r) = lines_more bs rest h ∙ ap (λ ls. bs ∷ ls) (lines_are r)

-- a byte in front of a text
in_front : (b : ℕ) {text : List ℕ} {ls : List (List ℕ)} → in_line b ≡ true → Lines text ls → (ms : List (List ℕ)) × Lines (b ∷ text) ms
in_front b e no_line = ((b ∷ []) ∷ [], one_line (e, tt))
in_front b e (one_line h) = (_, one_line (e, h))
in_front b e (more {bs} h r) = (_, more {bs = b ∷ bs} (e, h) r)

not_in_line : (b : ℕ) → in_line b ≡ false → b ≡ 10
not_in_line b e = eqb-true b 10 (not-false (eqb b 10) e)

split_lines : (text : List ℕ) → (ls : List (List ℕ)) × Lines text ls
split_lines [] = ([], no_line)
split_lines (b ∷ bs) =
    let r = split_lines bs in
    ⊎_elim (λ e. in_front b e r.1)
    (λ e. subst (λ c. (ls : List (List ℕ)) × Lines (c ∷ bs) ls) (sym (not_in_line b e)) ([] ∷ r.0, more tt r.1))
    (cases_Bool (in_line b))

lines : (text : List ℕ) → Lines text (lines_of text)
lines text = let r = split_lines text in subst (Lines text) (sym (lines_are r.1)) r.1

-- line after line, the first of them line l, is read as these statements
pub data Read : ℕ → List (List ℕ) → List Stmt → Type 0 where
  nil : {l : ℕ} → Read l [] []
  cons : {l : ℕ} {x : List ℕ} {xs : List (List ℕ)} {st : Stmt} {sts : List Stmt} → statement_of (line_tokens l x) ≡ Ok st → Read (l + 1) xs sts → Read l (x ∷ xs) (st ∷ sts)

bind_same : {X Y : Type 0} (r : Result X Refusal) (f g : X → Result Y Refusal) → ((x : X) → f x ≡ g x) → bind r f ≡ bind r g
bind_same (Ok x) f g h = h x
bind_same (Err d) f g h = refl

-- statement after statement
abbrev pub fold : {S : Type 0} → (S → Stmt → Result S Refusal) → S → List Stmt → Result S Refusal
fold step s [] = Ok s
fold step s (st ∷ sts) = bind (step s st) (λ t. fold step t sts)

pub read_tell : {S : Type 0} (step : S → Stmt → Result S Refusal) {l : ℕ} {ls : List (List ℕ)} {sts : List Stmt} (s : S) → Read l ls sts → tell step l s ls ≡ fold step s sts
read_tell step s nil = refl
read_tell step {l} s (cons {x = x} {xs = xs} {st = st} {sts = sts} e r) =
    ap (λ r. bind (bind r (step s)) (λ t. tell step (l + 1) t xs)) e ∙ bind_same (step s st) (λ t. tell step (l + 1) t xs) (λ t. fold step t sts) (λ t. read_tell step t r)

pub told_read : {S : Type 0} (step : S → Stmt → Result S Refusal) (l : ℕ) (s t : S) (ls : List (List ℕ)) → tell step l s ls ≡ Ok t → (sts : List Stmt) × Read l ls sts
told_read step l s t [] e = ([], nil)
told_read step l s t (x ∷ xs) e =
    let a = bind_ok (bind (statement_of (line_tokens l x)) (step s)) (λ t. tell step (l + 1) t xs) t e in
    let b = bind_ok (statement_of (line_tokens l x)) (step s) a.0 a.1 in
    let more = told_read step (l + 1) a.0 t xs a.2 in
    (b.0 ∷ more.0, cons b.1 more.1)

-- the statements without their places
abbrev pub said : List Stmt → List Said
said sts = flat_map said_of sts

word_size : (w : Word) → Written w → 1 ≤ length (spelling w)
word_size (name bs) h = h.0
word_size open_sign h = omega arith
word_size close_sign h = omega arith
word_size comma h = omega arith
word_size equals h = omega arith
word_size (stray b) h = absurd h
word_size end h = absurd h

spells_none : {bs : List ℕ} {ws : List Word} → length bs ≡ 0 → Spells bs ws → ws ≡ []
spells_none e nothing = refl
spells_none e (comment bs) = refl
spells_none e (separator t r) = absurd (omega arith)
spells_none e (word {w} {bs} wr ap r) = absurd (omega (arith, word_size w wr, length-append (spelling w) bs))

some_words : (s : Said) → words_of s ≡ [] → ⊥
some_words (input n) e = absurd (cc)
some_words (output n) e = absurd (cc)
some_words (gate n k ns) e = absurd (cc)

empty_holds : {bs : List ℕ} {ss : List Said} → length bs ≡ 0 → Holds bs ss → ss ≡ []
empty_holds e (none sp) = refl
empty_holds e (one {s = s} p sp) = absurd (some_words s (spells_none e sp))

pub all_parts : {X : Type 0} (P : X → Type 0) (xs ys : List X) → AllByRecursion P (xs ++ ys) → AllByRecursion P xs × AllByRecursion P ys
all_parts P [] ys h = (tt, h)
all_parts P (x ∷ xs) ys h = let r = all_parts P xs ys h.1 in ((h.0, r.0), r.1)

module _ (law : LineLaw) where
  reads_last : (bs : List ℕ) (ss : List Said) → AllByRecursion (λ b. in_line b ≡ true) bs → Holds bs ss → AllByRecursion Fitting ss → (l : ℕ) → (sts : List Stmt) × Read l (lines_of bs) sts × (said sts ≡ ss)
  reads_last [] ss h k f l = ([], nil, sym (empty_holds refl k))
  reads_last (b ∷ bs) ss h k f l =
      let r = law.reads l (b ∷ bs) ss f k in
      (r.0 ∷ [], subst (λ ls. Read l ls (r.0 ∷ [])) (sym (lines_one b bs h)) (cons r.1 nil), append-nil (said_of r.0) ∙ r.2)

  pub text_read : {text : List ℕ} {ss : List Said} → Text text ss → AllByRecursion Fitting ss → (l : ℕ) → (sts : List Stmt) × Read l (lines_of text) sts × (said sts ≡ ss)
  text_read (last {bs} {ss} h k) f l = reads_last bs ss h k f l
  text_read (line {bs} {rest} {ss} {more} h k t) f l =
      let g = all_parts Fitting ss more f in
      let r = law.reads l bs ss g.0 k in
      let rs = text_read t g.1 (l + 1) in
      let a : said_of r.0 ≡ ss = r.2 in
      let b : said rs.0 ≡ more = rs.2 in
      (r.0 ∷ rs.0, subst (λ ls. Read l ls (r.0 ∷ rs.0)) (sym (lines_more bs rest h)) (cons r.1 rs.1), cc)

  read_text : {text : List ℕ} {ls : List (List ℕ)} → Lines text ls → (l : ℕ) {sts : List Stmt} → Read l ls sts → Text text (said sts) × AllByRecursion Fitting (said sts)
  read_text no_line l nil = (last tt (none nothing), tt)
  read_text (one_line {b} {bs} h) l (cons {st = st} e nil) =
      let k = law.holds l (b ∷ bs) st e in
      subst (λ ss. Text (b ∷ bs) ss × AllByRecursion Fitting ss) (sym (append-nil (said_of st))) (last h k.0, k.1)
  read_text (more {bs} h t) l (cons {st = st} {sts = sts} e r) =
      let k = law.holds l bs st e in
      let rs = read_text t (l + 1) r in
      (line h k.0 rs.0, All-append Fitting (said_of st) (said sts) k.1 rs.1)

  pub lines_text : (l : ℕ) (text : List ℕ) {sts : List Stmt} → Read l (lines_of text) sts → Text text (said sts) × AllByRecursion Fitting (said sts)
  lines_text l text r = read_text (lines text) l r
