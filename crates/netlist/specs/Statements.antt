-- What a line's tokens state.
use Rattle.std.specs.Prelude.{ℕ, zero, suc, ◌+◌, Bool, true, false, cond, not, List, [], ◌∷◌, Ok, Err, codes, Result}
use Rattle.std.specs.Option.{ok_or}
use Rattle.circuit.specs.Gates.{spells, kind_of, fits}
use Rattle.circuit.specs.declared.kinds.Kind.{Kind}
use Rattle.circuit.specs.declared.refusals.Place.{Place}
use Rattle.circuit.specs.declared.refusals.Refusal.{Refusal}
use Rattle.circuit.specs.declared.refusals.Refusal.TheVariants.{Misform, NoKind, WrongPins}
use Rattle.texts.specs.Steps.{bind, unless}
use Rattle.netlist.specs.Tokens.{Tok, spelling, sort_of, same_sort, is_end, first, after, toks}
use Rattle.netlist.specs.declared.statements.Label.{Label}
use Rattle.netlist.specs.declared.statements.Labels.{Labels}
use Rattle.netlist.specs.declared.statements.pins.Pins.{Pins}
use Rattle.netlist.specs.declared.statements.Statement.{Statement}
use Rattle.netlist.specs.declared.statements.Statement.TheVariants as code
use Rattle.netlist.specs.declared.statements.Form.{Form}
use Rattle.netlist.specs.declared.statements.Form.TheVariants.{OneInput, OneOutput, OneGate}
use Rattle.netlist.specs.declared.tokens.Sort.{Sort}
use Rattle.netlist.specs.declared.tokens.Sort.TheVariants.{Name, Open, Close, Comma, Equals, End}

-- a name, and where it stands
pub record Named : Type 0 where
  pub bytes : List ℕ
  pub place : Place

abbrev pub named : Label → Named
named l = record { bytes = l.bytes.now; place = l.place }

-- a token that is taken for a name
abbrev pub label : Tok → Named
label t = record { bytes = spelling t.word; place = t.place }

abbrev pub told : Result Label Refusal → Result Named Refusal
told (Ok l) = Ok (named l)
told (Err e) = Err e

-- a token of that sort, or misform at the token
abbrev pub want : Tok → Sort → Result (Unit {0}) Refusal
want t s = cond (same_sort (sort_of t.word) s) (Ok tt) (Err (Misform t.place))

abbrev pub want_name : Tok → Result Named Refusal
want_name t = cond (same_sort (sort_of t.word) Name) (Ok (label t)) (Err (Misform t.place))

abbrev pub one_name : List Tok → Result Named Refusal
one_name ts =
    bind (want (first ts) Open) (λ _.
    bind (want_name (first (after ts))) (λ n.
    bind (want (first (after (after ts))) Close) (λ _.
    bind (want (first (after (after (after ts)))) End) (λ _.
    Ok n))))

-- after a pin's name stands a comma and another name, or the closing sign and the line's end
abbrev pub next_pin : List Tok → Result Bool Refusal
next_pin ts =
    cond (same_sort (sort_of (first ts).word) Comma) (bind (want_name (first (after ts))) (λ _. Ok true))
    (cond (same_sort (sort_of (first ts).word) Close) (bind (want (first (after ts)) End) (λ _. Ok false))
    (Err (Misform (first ts).place)))

abbrev pub plus : ℕ → Result ℕ Refusal → Result ℕ Refusal
plus n (Ok m) = Ok (n + m)
plus n (Err e) = Err e

-- how many pins stand after the first
abbrev pub more_pins : List Tok → Result ℕ Refusal
more_pins [] = Err (Misform (first []).place)
more_pins (s ∷ []) = bind (next_pin (s ∷ [])) (λ _. Ok 0)
more_pins (s ∷ t ∷ ts) = bind (next_pin (s ∷ t ∷ ts)) (λ b. cond b (plus 1 (more_pins ts)) (Ok 0))

abbrev pub pins : List Tok → Result ℕ Refusal
pins ts = bind (want_name (first ts)) (λ _. plus 1 (more_pins (after ts)))

-- the names of the first n pins: a sign stands after each
abbrev pub labels : ℕ → List Tok → List Named
labels zero ts = []
labels (suc n) ts = label (first ts) ∷ labels n (after (after ts))

-- the names of a gate's pins
abbrev pub pin_labels : Pins → List Named
pin_labels p = labels p.count (toks p.scanner)

-- the names of the pins that are left
abbrev pub pins_left : Labels → List Named
pins_left s = labels s.count (toks s.scanner)

abbrev pub want_kind : Named → Result Kind Refusal
want_kind w = ok_or (kind_of w.bytes) (NoKind w.place)

-- what a line states
pub data Stmt : Type 0 where
  blank : Stmt
  input : Named → Stmt
  output : Named → Stmt
  gate : Named → Kind → List Named → Stmt

abbrev pub stmt_of : Statement → Stmt
stmt_of code.Blank = blank
stmt_of (code.Input n) = input (named n)
stmt_of (code.Output n) = output (named n)
stmt_of (code.Gate n p) = gate (named n) p.kind (pin_labels p)

abbrev pub stated : Result Statement Refusal → Result Stmt Refusal
stated (Ok s) = Ok (stmt_of s)
stated (Err e) = Err e

-- the form of the whole statement, then the kind, then the number of pins
abbrev pub gate_statement : Named → List Tok → Result Stmt Refusal
gate_statement n ts =
    bind (want (first ts) Equals) (λ _.
    bind (want_name (first (after ts))) (λ w.
    bind (want (first (after (after ts))) Open) (λ _.
    bind (pins (after (after (after ts)))) (λ c.
    bind (want_kind w) (λ k.
    unless (not (fits k c)) (WrongPins w.place) (
    Ok (gate n k (labels c (after (after (after ts)))))))))))

abbrev pub form_of : List ℕ → Form
form_of w = cond (spells w 0 (codes "INPUT")) OneInput (cond (spells w 0 (codes "OUTPUT")) OneOutput OneGate)

abbrev pub by_form : Form → Named → List Tok → Result Stmt Refusal
by_form OneInput n ts = bind (one_name ts) (λ m. Ok (input m))
by_form OneOutput n ts = bind (one_name ts) (λ m. Ok (output m))
by_form OneGate n ts = gate_statement n ts

abbrev pub statement_of : List Tok → Result Stmt Refusal
statement_of ts =
    cond (is_end (first ts).word) (Ok blank)
    (bind (want_name (first ts)) (λ n. by_form (form_of n.bytes) n (after ts)))
