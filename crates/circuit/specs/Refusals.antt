-- The register of refusals: number, word, place, layer and sentence of each, and how places and layers print.
use Rattle.std.specs.Prelude.{ℕ, Bool, true, false, cond, List, ◌++◌, codes, decimal, ◌==◌}
use Rattle.circuit.specs.declared.refusals.Place.{Place}
use Rattle.circuit.specs.declared.refusals.Layer.{Layer}
use Rattle.circuit.specs.declared.refusals.Layer.TheVariants.{Statement, Netlist}
use Rattle.circuit.specs.declared.refusals.Refusal.{Refusal}
use Rattle.circuit.specs.declared.refusals.Refusal.TheVariants.{Misform, NoKind, WrongPins, UnknownPin, UnknownOutput, Redriven, LongText, LongName, ManyLines, ManyInputs, ManyOutputs, NoInput, NoOutput}

abbrev pub number_of : Refusal → ℕ
number_of (Misform p) = 1
number_of (NoKind p) = 2
number_of (WrongPins p) = 3
number_of (UnknownPin p) = 4
number_of (UnknownOutput p) = 4
number_of (Redriven p) = 5
number_of LongText = 6
number_of (LongName p) = 6
number_of (ManyLines p) = 6
number_of (ManyInputs p) = 6
number_of (ManyOutputs p) = 6
number_of NoInput = 7
number_of NoOutput = 7

-- the word of a number
abbrev pub word_of : ℕ → List ℕ
word_of n =
    cond (n == 1) (codes "misform")
    (cond (n == 2) (codes "kind")
    (cond (n == 3) (codes "pins")
    (cond (n == 4) (codes "unknown")
    (cond (n == 5) (codes "redriven")
    (cond (n == 6) (codes "over")
    (codes "bare"))))))

-- the text as a whole
abbrev pub nowhere : Place
nowhere = record { line = 0; column = 0 }

abbrev pub place_of : Refusal → Place
place_of (Misform p) = p
place_of (NoKind p) = p
place_of (WrongPins p) = p
place_of (UnknownPin p) = p
place_of (UnknownOutput p) = p
place_of (Redriven p) = p
place_of LongText = nowhere
place_of (LongName p) = p
place_of (ManyLines p) = p
place_of (ManyInputs p) = p
place_of (ManyOutputs p) = p
place_of NoInput = nowhere
place_of NoOutput = nowhere

-- the text's length, the outputs' names and what is lacking are the netlist's; the rest is the statement's
abbrev pub layer_of : Refusal → Layer
layer_of (Misform p) = Statement
layer_of (NoKind p) = Statement
layer_of (WrongPins p) = Statement
layer_of (UnknownPin p) = Statement
layer_of (UnknownOutput p) = Netlist
layer_of (Redriven p) = Statement
layer_of LongText = Netlist
layer_of (LongName p) = Statement
layer_of (ManyLines p) = Statement
layer_of (ManyInputs p) = Statement
layer_of (ManyOutputs p) = Statement
layer_of NoInput = Netlist
layer_of NoOutput = Netlist

-- what is refused is the text as a whole, and not something that stands in it
abbrev pub of_text : Refusal → Bool
of_text (Misform p) = false
of_text (NoKind p) = false
of_text (WrongPins p) = false
of_text (UnknownPin p) = false
of_text (UnknownOutput p) = false
of_text (Redriven p) = false
of_text LongText = true
of_text (LongName p) = false
of_text (ManyLines p) = false
of_text (ManyInputs p) = false
of_text (ManyOutputs p) = false
of_text NoInput = true
of_text NoOutput = true

-- line and column
abbrev pub place_text : Place → List ℕ
place_text p = decimal p.line ++ (codes ":" ++ decimal p.column)

abbrev pub layer_word : Layer → List ℕ
layer_word Statement = codes "statement"
layer_word Netlist = codes "netlist"

-- a refusal in a sentence
abbrev pub sentence_of : Refusal → List ℕ
sentence_of (Misform p) = codes "a token does not fit, or the line ends early"
sentence_of (NoKind p) = codes "the kind is none of AND, NAND, OR, NOR, XOR, XNOR, NOT, BUFF"
sentence_of (WrongPins p) = codes "NOT and BUFF have one pin, the other kinds two to four"
sentence_of (UnknownPin p) = codes "the pin names no earlier line"
sentence_of (UnknownOutput p) = codes "the output names no line"
sentence_of (Redriven p) = codes "the line exists already"
sentence_of LongText = codes "the text has more than 65536 bytes"
sentence_of (LongName p) = codes "the name has more than 16 bytes"
sentence_of (ManyLines p) = codes "the circuit has more than 1024 lines"
sentence_of (ManyInputs p) = codes "the circuit has more than 64 inputs"
sentence_of (ManyOutputs p) = codes "the circuit has more than 63 outputs"
sentence_of NoInput = codes "the circuit has no input"
sentence_of NoOutput = codes "the circuit has no output"
