-- One turn over a gate's pins.
use Rattle.std.proofs.Common.{◌≡◌, ℕ, ◌+◌, ◌≤◌, true, List, [], ◌∷◌, length, Ok, Err, Result, sym, refl, ap, ◌∙◌, arith}
use Rattle.circuit.specs.declared.refusals.Place.{Place}
use Rattle.circuit.specs.declared.refusals.Refusal.{Refusal}
use Rattle.netlist.specs.Tokens.{Tok, Word, after, name, open_sign, close_sign, comma, equals, stray, end}
use Rattle.netlist.specs.Statements.{next_pin, more_pins, plus}

plus_plus : (m n : ℕ) (r : Result ℕ Refusal) → plus m (plus n r) ≡ plus (m + n) r
plus_plus m n (Ok k) = let e : m + (n + k) ≡ m + n + k = omega arith in ap (λ n. Ok n) e
plus_plus m n (Err e) = refl

abbrev Turn : List Tok → Type 0
Turn ts = next_pin ts ≡ Ok true → (more_pins ts ≡ plus 1 (more_pins (after (after ts)))) × (length (after (after ts)) + 2 ≤ length ts)

abbrev tok : Word → Place → Tok
tok w p = record { word = w; place = p }

turn_one : (w : Word) (p : Place) → Turn (tok w p ∷ [])
turn_one (name bs) p e = absurd (cc)
turn_one open_sign p e = absurd (cc)
turn_one close_sign p e = absurd (cc)
turn_one comma p e = absurd (cc)
turn_one equals p e = absurd (cc)
turn_one (stray x) p e = absurd (cc)
turn_one end p e = absurd (cc)

turn_two : (w v : Word) (p q : Place) (ts : List Tok) → Turn (tok w p ∷ tok v q ∷ ts)
turn_two (name bs) v p q ts e = absurd (cc)
turn_two open_sign v p q ts e = absurd (cc)
turn_two close_sign (name cs) p q ts e = absurd (cc)
turn_two close_sign open_sign p q ts e = absurd (cc)
turn_two close_sign close_sign p q ts e = absurd (cc)
turn_two close_sign comma p q ts e = absurd (cc)
turn_two close_sign equals p q ts e = absurd (cc)
turn_two close_sign (stray y) p q ts e = absurd (cc)
turn_two close_sign end p q ts e = absurd (cc)
turn_two comma (name cs) p q ts e = (refl, omega arith)
turn_two comma open_sign p q ts e = absurd (cc)
turn_two comma close_sign p q ts e = absurd (cc)
turn_two comma comma p q ts e = absurd (cc)
turn_two comma equals p q ts e = absurd (cc)
turn_two comma (stray y) p q ts e = absurd (cc)
turn_two comma end p q ts e = absurd (cc)
turn_two equals v p q ts e = absurd (cc)
turn_two (stray x) v p q ts e = absurd (cc)
turn_two end v p q ts e = absurd (cc)

-- where another pin stands, it is the first of those that are left
pub turn : (ts : List Tok) → Turn ts
turn [] e = absurd (cc)
turn (s ∷ []) e = turn_one s.word s.place e
turn (s ∷ t ∷ ts) e = turn_two s.word t.word s.place t.place ts e

pub one_more : (k : ℕ) (ts us : List Tok) → next_pin ts ≡ Ok true → us ≡ after (after ts) → plus k (more_pins ts) ≡ plus (k + 1) (more_pins us)
one_more k ts us e a = ap (plus k) (turn ts e).0 ∙ plus_plus k 1 _ ∙ ap (λ x. plus (k + 1) (more_pins x)) (sym a)
