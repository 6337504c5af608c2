-- What makes lists of lines, names and outputs a circuit.
use Rattle.std.specs.Prelude.{◌≡◌, ℕ, suc, ◌<◌, ◌≤◌, Bool, true, false, cond, List, [], ◌∷◌, length, take, ◌≢◌, slice_index, slice_index_or}
use Rattle.circuit.specs.Gates.{least, most}
use Rattle.circuit.specs.declared.kinds.Kind.{Kind}
use Rattle.circuit.specs.declared.lines.Gate.{Gate as GateT}
use Rattle.circuit.specs.declared.lines.Line.{Line}
use Rattle.circuit.specs.declared.lines.Line.TheVariants.{Input, Gate}

-- a list's default line
abbrev pub blank : Line
blank = Input 0

abbrev pub is_input : Line → Bool
is_input (Input j) = true
is_input (Gate g) = false

-- the number of the input that a line is; 0 at a gate
abbrev pub input_at : Line → ℕ
input_at (Input j) = j
input_at (Gate g) = 0

abbrev pub pin_count : Line → ℕ
pin_count (Input j) = 0
pin_count (Gate g) = length g.pins

-- the line that feeds pin p
abbrev pub pin_from : Line → ℕ → ℕ
pin_from (Input j) p = 0
pin_from (Gate g) p = slice_index g.pins p

abbrev pub least_pins : Line → ℕ
least_pins (Input j) = 0
least_pins (Gate g) = least g.kind

abbrev pub most_pins : Line → ℕ
most_pins (Input j) = 0
most_pins (Gate g) = most g.kind

-- the gate of a kind with these pins
abbrev pub gate_of : Kind → List ℕ → GateT
gate_of k ps = record { kind = k; pins = ps }

-- the lines that feed a gate's pins, in order
abbrev pub pins_of : Line → List ℕ
pins_of (Input j) = []
pins_of (Gate g) = g.pins

-- how many of the lines are inputs
abbrev pub inputs_in : List Line → ℕ
inputs_in [] = 0
inputs_in (l ∷ ls) = cond (is_input l) (suc (inputs_in ls)) (inputs_in ls)

-- every pin count fits its kind
abbrev pub Counted : List Line → Type 0
Counted ls = (i : ℕ) → i < length ls → (least_pins (slice_index_or ls i blank) ≤ pin_count (slice_index_or ls i blank)) × (pin_count (slice_index_or ls i blank) ≤ most_pins (slice_index_or ls i blank))

-- every pin is fed by an earlier line
abbrev pub Fed : List Line → Type 0
Fed ls = (i p : ℕ) → i < length ls → p < pin_count (slice_index_or ls i blank) → pin_from (slice_index_or ls i blank) p < i

-- inputs count from 0 in the order of the lines
abbrev pub Numbered : List Line → Type 0
Numbered ls = (i : ℕ) → i < length ls → is_input (slice_index_or ls i blank) ≡ true → input_at (slice_index_or ls i blank) ≡ inputs_in (take i ls)

-- no name has more than sixteen bytes
abbrev pub Brief : List (List ℕ) → Type 0
Brief ns = (i : ℕ) → i < length ns → length (slice_index_or ns i []) ≤ 16

-- no two lines have one name
abbrev pub Distinct : List (List ℕ) → Type 0
Distinct ns = (i j : ℕ) → i < j → j < length ns → slice_index_or ns i [] ≢ slice_index_or ns j []

-- every output shows a line
abbrev pub Shown : List ℕ → ℕ → Type 0
Shown outs n = (j : ℕ) → j < length outs → slice_index outs j < n
