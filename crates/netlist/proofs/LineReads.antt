-- A line that holds a statement is read as that statement.
use Rattle.std.proofs.Common.{◌≡◌, ℕ, ◌≤◌, true, false, List, [], ◌∷◌, ◌++◌, map, length, Ok, Result, refl, ap, ◌∙◌, one-add, arith}
use Rattle.std.specs.Option.{ok_or}
use Rattle.std.specs.List.{AllByRecursion}
use Rattle.circuit.specs.Gates.{kind_word, kind_of, fits}
use Rattle.circuit.specs.declared.kinds.Kind.{Kind}
use Rattle.circuit.specs.declared.refusals.Refusal.{Refusal}
use Rattle.circuit.specs.declared.refusals.Refusal.TheVariants.{NoKind}
use Rattle.netlist.specs.declared.statements.Form.{Form}
use Rattle.netlist.specs.declared.statements.Form.TheVariants.{OneInput, OneOutput, OneGate}
use Rattle.netlist.specs.declared.tokens.Sort.{Sort}
use Rattle.netlist.specs.declared.tokens.Sort.TheVariants as sort
use Rattle.netlist.specs.Tokens.{Tok, Word, name, open_sign, close_sign, comma, equals, end, spelling, sort_of, same_sort, line_tokens, is_end, first, after}
use Rattle.netlist.specs.Statements as stmt
use Rattle.netlist.specs.Statements.{Named, label, want, want_name, one_name, more_pins, pins, labels, want_kind, Stmt, gate_statement, form_of, by_form, statement_of}
use Rattle.netlist.specs.Grammar.{Said, input, output, gate, pin_words, words_of, Proper, Holds, none, one}
use Rattle.netlist.proofs.Said.{bytes_at, said_of, Fitting}
use Rattle.netlist.proofs.Spelling.{said, words_spelt}
use Rattle.netlist.proofs.LineWords.{kind_is, form_gate, more_words, pin_words_more}

head_is : (ts : List Tok) (w : Word) (ws : List Word) → said ts ≡ w ∷ ws → (first ts).word ≡ w
head_is [] w ws q = absurd (cc)
head_is (t ∷ ts) w ws q = cc

tail_is : (ts : List Tok) (w : Word) (ws : List Word) → said ts ≡ w ∷ ws → is_end w ≡ false → said (after ts) ≡ ws
tail_is [] w ws q f = absurd (cc)
tail_is (t ∷ ts) w ws q f =
    let z : t.word ≡ w = cc in
    let r : said ts ≡ ws = cc in
    let n = ap is_end z ∙ f in
    rw n r

want_at : (t : Tok) (w : Word) (s : Sort) → t.word ≡ w → same_sort (sort_of w) s ≡ true → want t s ≡ Ok tt
want_at t w s e h = let z = ap (λ v. same_sort (sort_of v) s) e ∙ h in rw z

want_name_at : (t : Tok) (n : List ℕ) → t.word ≡ name n → want_name t ≡ Ok (label t)
want_name_at t n e = let z = ap (λ v. same_sort (sort_of v) sort.Name) e in rw z

one_name_reads : (ts : List Tok) (n : List ℕ) → said ts ≡ open_sign ∷ name n ∷ close_sign ∷ end ∷ [] → (m : Named) × (one_name ts ≡ Ok m) × (m.bytes ≡ n)
one_name_reads ts n q =
    let q₁ = tail_is ts _ _ q refl in
    let q₂ = tail_is (after ts) _ _ q₁ refl in
    let q₃ = tail_is (after (after ts)) _ _ q₂ refl in
    let e₀ = want_at (first ts) _ sort.Open (head_is ts _ _ q) refl in
    let e₁ = want_name_at (first (after ts)) n (head_is (after ts) _ _ q₁) in
    let e₂ = want_at (first (after (after ts))) _ sort.Close (head_is (after (after ts)) _ _ q₂) refl in
    let e₃ = want_at (first (after (after (after ts)))) _ sort.End (head_is (after (after (after ts))) _ _ q₃) refl in
    (label (first (after ts)), rw (e₀, e₁, e₂, e₃), ap spelling (head_is (after ts) _ _ q₁))

-- what is read as pins
abbrev Pins : Result ℕ Refusal → (ℕ → List Named) → List (List ℕ) → Type 0
Pins r read ns = (r ≡ Ok (length ns)) × (map bytes_at (read (length ns)) ≡ ns)

more_reads : (ns : List (List ℕ)) (ts : List Tok) → said ts ≡ more_words ns ++ end ∷ [] → Pins (more_pins ts) (λ m. labels m (after ts)) ns
more_reads [] [] q = absurd (cc)
more_reads [] (s ∷ []) q = absurd (cc)
more_reads [] (s ∷ t ∷ ts) q =
    let a : s.word ≡ close_sign = cc in
    let b : t.word ≡ end = cc in
    (rw (a, b), refl)
more_reads (n ∷ ns) [] q = absurd (cc)
more_reads (n ∷ ns) (s ∷ []) q = absurd (cc)
more_reads (n ∷ ns) (s ∷ t ∷ ts) q =
    let a : s.word ≡ comma = cc in
    let b : t.word ≡ name n = cc in
    let r : said ts ≡ more_words ns ++ end ∷ [] = cc in
    let more = more_reads ns ts r in
    let m = more.0 in
    (rw (a, b, m, one-add), rw (a, b) (ap (λ ms. n ∷ ms) more.1))

pins_reads : (ns : List (List ℕ)) (ts : List Tok) → 1 ≤ length ns → said ts ≡ pin_words ns ++ end ∷ [] → Pins (pins ts) (λ m. labels m ts) ns
pins_reads [] ts h q = absurd (omega arith)
pins_reads (n ∷ ns) ts h q =
    let r = q ∙ ap (λ ws. ws ++ end ∷ []) (pin_words_more n ns) in
    let a = head_is ts _ _ r in
    let e = want_name_at (first ts) n a in
    let more = more_reads ns (after ts) (tail_is ts _ _ r refl) in
    let m = more.0 in
    (rw (e, m, one-add), (λ i. spelling (a i) ∷ more.1 i))

kind_reads : (w : Named) (k : Kind) → w.bytes ≡ kind_word k → want_kind w ≡ Ok k
kind_reads w k e = ap (λ o. ok_or o (NoKind w.place)) (ap kind_of e ∙ kind_is k)

gate_reads : (n : Named) (k : Kind) (ns : List (List ℕ)) (ts : List Tok) → 1 ≤ length ns → fits k (length ns) ≡ true → said ts ≡ equals ∷ name (kind_word k) ∷ open_sign ∷ pin_words ns ++ end ∷ [] → (ps : List Named) × (gate_statement n ts ≡ Ok (stmt.gate n k ps)) × (map bytes_at ps ≡ ns)
gate_reads n k ns ts h f q =
    let q₁ = tail_is ts _ _ q refl in
    let q₂ = tail_is (after ts) _ _ q₁ refl in
    let q₃ = tail_is (after (after ts)) _ _ q₂ refl in
    let a = head_is (after ts) _ _ q₁ in
    let e₀ = want_at (first ts) _ sort.Equals (head_is ts _ _ q) refl in
    let e₁ = want_name_at (first (after ts)) _ a in
    let e₂ = want_at (first (after (after ts))) _ sort.Open (head_is (after (after ts)) _ _ q₂) refl in
    let ps = pins_reads ns (after (after (after ts))) h q₃ in
    let e₃ = ps.0 in
    let e₄ = kind_reads (label (first (after ts))) k (ap spelling a) in
    (labels (length ns) (after (after (after ts))), rw (e₀, e₁, e₂, e₃, e₄, f), ps.1)

-- a first word that is a name settles the form
form_reads : (ts : List Tok) (n : List ℕ) (ws : List Word) (f : Form) → said ts ≡ name n ∷ ws → form_of n ≡ f → statement_of ts ≡ by_form f (label (first ts)) (after ts)
form_reads ts n ws f q e =
    let a = head_is ts _ _ q in
    let b = ap is_end a in
    let c = want_name_at (first ts) n a in
    let d : form_of (label (first ts)).bytes ≡ f = ap (λ w. form_of (spelling w)) a ∙ e in
    rw (b, c, d)

said_reads : (s : Said) (ts : List Tok) → Proper s → Fitting s → said ts ≡ words_of s ++ end ∷ [] → (st : Stmt) × (statement_of ts ≡ Ok st) × (said_of st ≡ s ∷ [])
said_reads (input n) ts p f q =
    let r = one_name_reads (after ts) n (tail_is ts _ _ q refl) in
    let e = r.1 in
    (stmt.input r.0, form_reads ts _ _ OneInput q refl ∙ rw e, ap (λ m. input m ∷ []) r.2)
said_reads (output n) ts p f q =
    let r = one_name_reads (after ts) n (tail_is ts _ _ q refl) in
    let e = r.1 in
    (stmt.output r.0, form_reads ts _ _ OneOutput q refl ∙ rw e, ap (λ m. output m ∷ []) r.2)
said_reads (gate n k ns) ts p f q =
    let m = label (first ts) in
    let r = gate_reads m k ns (after ts) p.0 f (tail_is ts _ _ q refl) in
    let a = ap spelling (head_is ts _ _ q) in
    (stmt.gate m k r.0, form_reads ts _ _ OneGate q (form_gate n p.1 p.2) ∙ r.1, (λ i. gate (a i) k (r.2 i) ∷ []))

pub line_reads : (l : ℕ) (bs : List ℕ) (ss : List Said) → AllByRecursion Fitting ss → Holds bs ss → (st : Stmt) × (statement_of (line_tokens l bs) ≡ Ok st) × (said_of st ≡ ss)
line_reads l bs ss f (none h) =
    let b = ap is_end (head_is (line_tokens l bs) _ _ (words_spelt l _ h)) in
    (stmt.blank, rw b, refl)
line_reads l bs ss f (one {s} p h) = said_reads s (line_tokens l bs) p f.0 (words_spelt l _ h)
