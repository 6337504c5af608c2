-- What a text means: the circuit of its statements, or the refusal.
use Rattle.std.specs.Prelude.{◌≡◌, ℕ, ◌+◌, ◌-◌, ◌≤◌, false, List, [], ◌∷◌, length, Ok, Result, ◌==◌, nat_lt, slice_index_or}
use Rattle.circuit.specs.Refusals.{of_text, place_of}
use Rattle.circuit.specs.Shape.{inputs_in}
use Rattle.circuit.specs.Plans.{Plan, empty}
use Rattle.circuit.specs.declared.refusals.Place.{Place}
use Rattle.circuit.specs.declared.refusals.Refusal.{Refusal}
use Rattle.circuit.specs.declared.refusals.Refusal.TheVariants.{LongText, NoInput, NoOutput}
use Rattle.texts.specs.Lines.{lines_of}
use Rattle.texts.specs.Steps.{bind, unless}
use Rattle.netlist.specs.Tokens.{line_tokens}
use Rattle.netlist.specs.Statements.{Stmt, statement_of}
use Rattle.netlist.specs.Driving.{state, drive, show}

-- the lines one after another, the first of them line l, where `step` says what a statement does
abbrev pub tell : {S : Type 0} → (S → Stmt → Result S Refusal) → ℕ → S → List (List ℕ) → Result S Refusal
tell step l s [] = Ok s
tell step l s (x ∷ xs) = bind (bind (statement_of (line_tokens l x)) (step s)) (λ t. tell step (l + 1) t xs)

-- bare: no input, or no output
abbrev pub whole : Plan → Result Plan Refusal
whole p = unless (inputs_in p.lines == 0) NoInput (unless (length p.outputs == 0) NoOutput (Ok p))

-- the text's length, then statement by statement, then the outputs' names, then what is lacking
abbrev pub filling : Plan → List ℕ → Result Plan Refusal
filling p text =
    unless (nat_lt 65536 (length text)) LongText (
    bind (tell drive 1 (state p 0) (lines_of text)) (λ s.
    bind (tell show 1 s.plan (lines_of text)) (λ q.
    whole q)))

abbrev pub meaning : List ℕ → Result Plan Refusal
meaning text = filling empty text

-- a place in a text: one of its lines, at one of its bytes or where the line ends
pub record Within (text : List ℕ) (p : Place) : Type 0 where
  pub line_from : 1 ≤ p.line
  pub line_to : p.line ≤ length (lines_of text)
  pub column_from : 1 ≤ p.column
  pub column_to : p.column ≤ length (slice_index_or (lines_of text) (p.line - 1) []) + 1

-- a refusal of something in the text has its place in the text
abbrev pub Placed : List ℕ → Refusal → Type 0
Placed text e = of_text e ≡ false → Within text (place_of e)
