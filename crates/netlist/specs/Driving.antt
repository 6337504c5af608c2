-- What one statement adds to a circuit in the making, or why it is refused.
use Rattle.std.specs.Prelude.{◌≡◌, ℕ, ◌+◌, ◌<◌, ◌≤◌, Bool, true, List, [], ◌∷◌, ◌++◌, length, is_some, Ok, Err, Result, nat_le, nat_lt}
use Rattle.std.specs.Option.{ok_or}
use Rattle.circuit.specs.Names.{find}
use Rattle.circuit.specs.Shape.{is_input, input_at, pin_count, pin_from, least_pins, most_pins, inputs_in, gate_of}
use Rattle.circuit.specs.Spelled.{bytes_of}
use Rattle.circuit.specs.Plans.{Plan}
use Rattle.circuit.specs.declared.kinds.Kind.{Kind}
use Rattle.circuit.specs.declared.lines.Line.{Line}
use Rattle.circuit.specs.declared.lines.Line.TheVariants.{Input, Gate}
use Rattle.circuit.specs.declared.names.Name.{Name}
use Rattle.circuit.specs.declared.refusals.Refusal.{Refusal}
use Rattle.circuit.specs.declared.refusals.Refusal.TheVariants.{LongName, ManyLines, ManyInputs, ManyOutputs, Redriven, UnknownPin, UnknownOutput}
use Rattle.texts.specs.Steps.{bind, unless}
use Rattle.netlist.specs.Statements.{Named, Stmt, blank, input, output, gate}

-- a line may follow these lines
pub record Fits (ls : List Line) (l : Line) : Type 0 where
  pub counted : (least_pins l ≤ pin_count l) × (pin_count l ≤ most_pins l)
  pub fed : (p : ℕ) → p < pin_count l → pin_from l p < length ls
  pub numbered : is_input l ≡ true → input_at l ≡ inputs_in ls

-- one line more, with its name
abbrev pub with_line : Plan → List ℕ → Line → Plan
with_line p n l = record { lines = p.lines ++ l ∷ []; names = p.names ++ n ∷ []; outputs = p.outputs }

-- one output more
abbrev pub with_output : Plan → ℕ → Plan
with_output p l = record { lines = p.lines; names = p.names; outputs = p.outputs ++ l ∷ [] }

-- what a call answered, with what it left
abbrev pub outcome : {X : Type 0} → Result (Unit {0}) Refusal → X → Result X Refusal
outcome (Ok u) x = Ok x
outcome (Err e) x = Err e

-- a circuit in the making, and how many outputs are asked for
pub record State : Type 0 where
  pub plan : Plan
  pub asked : ℕ

abbrev pub state : Plan → ℕ → State
state p n = record { plan = p; asked = n }

abbrev pub spelt : Result Name Refusal → Result (List ℕ) Refusal
spelt (Ok n) = Ok (bytes_of n)
spelt (Err e) = Err e

-- over: the name has more than 16 bytes
abbrev pub long : Named → Bool
long n = nat_lt 16 (length n.bytes)

-- over: there are 1,024 lines already
abbrev pub full : Plan → Bool
full p = nat_le 1024 (length p.lines)

-- over: there are 64 inputs already
abbrev pub many_inputs : Plan → Bool
many_inputs p = nat_le 64 (inputs_in p.lines)

-- over: there are 63 outputs already
abbrev pub many_outputs : ℕ → Bool
many_outputs n = nat_le 63 n

-- redriven: the line exists
abbrev pub driven : Plan → Named → Bool
driven p n = is_some (find p.names n.bytes)

abbrev pub want_short : Named → Result (List ℕ) Refusal
want_short n = unless (long n) (LongName n.place) (Ok n.bytes)

abbrev pub want_room : Plan → Named → Result (Unit {0}) Refusal
want_room p n = unless (full p) (ManyLines n.place) (Ok tt)

abbrev pub want_undriven : Plan → Named → Result (Unit {0}) Refusal
want_undriven p n = unless (driven p n) (Redriven n.place) (Ok tt)

abbrev pub drive_input : Plan → Named → Result Plan Refusal
drive_input p n =
    bind (want_short n) (λ w.
    bind (want_room p n) (λ _.
    unless (many_inputs p) (ManyInputs n.place) (
    bind (want_undriven p n) (λ _.
    Ok (with_line p w (Input (inputs_in p.lines)))))))

-- the leftmost name that is too long
abbrev pub short_pins : List Named → Result (Unit {0}) Refusal
short_pins [] = Ok tt
short_pins (n ∷ ns) = unless (long n) (LongName n.place) (short_pins ns)

-- the lines of the pins' names, or the leftmost that names no earlier line
abbrev pub resolve : List (List ℕ) → List Named → Result (List ℕ) Refusal
resolve names [] = Ok []
resolve names (n ∷ ns) = bind (ok_or (find names n.bytes) (UnknownPin n.place)) (λ l. bind (resolve names ns) (λ ls. Ok (l ∷ ls)))

-- over (the name, the lines, the pins' names), then redriven, then unknown
abbrev pub drive_gate : Plan → Named → Kind → List Named → Result Plan Refusal
drive_gate p n k ns =
    bind (want_short n) (λ w.
    bind (want_room p n) (λ _.
    bind (short_pins ns) (λ _.
    bind (want_undriven p n) (λ _.
    bind (resolve p.names ns) (λ ls.
    Ok (with_line p w (Gate (gate_of k ls))))))))

abbrev pub ask_output : ℕ → Named → Result ℕ Refusal
ask_output asked n =
    bind (want_short n) (λ _.
    unless (many_outputs asked) (ManyOutputs n.place) (
    Ok (asked + 1)))

abbrev pub show_output : Plan → Named → Result Plan Refusal
show_output p n =
    bind (ok_or (find p.names n.bytes) (UnknownOutput n.place)) (λ l.
    unless (many_outputs (length p.outputs)) (ManyOutputs n.place) (
    Ok (with_output p l)))

-- the first reading of a statement drives its line, or counts its output
abbrev pub drive : State → Stmt → Result State Refusal
drive s blank = Ok s
drive s (input n) = bind (drive_input s.plan n) (λ q. Ok (state q s.asked))
drive s (output n) = bind (ask_output s.asked n) (λ m. Ok (state s.plan m))
drive s (gate n k ns) = bind (drive_gate s.plan n k ns) (λ q. Ok (state q s.asked))

-- the second reading shows its output
abbrev pub show : Plan → Stmt → Result Plan Refusal
show p blank = Ok p
show p (input n) = Ok p
show p (output n) = show_output p n
show p (gate n k ns) = Ok p
