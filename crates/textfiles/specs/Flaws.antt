-- What is wrong with a text, in words; and what a reader answers.
use Rattle.std.specs.Prelude.{◌≡◌, ℕ, List, ◌++◌, Ok, Err, codes, Result}
use Rattle.circuit.specs.Refusals.{place_text}
use Rattle.textfiles.specs.declared.flaws.What.{What}
use Rattle.textfiles.specs.declared.flaws.What.TheVariants.{NotABit, ShortVector, LongVector, NoName, UnknownName, NoSign, NoSlash, NoPin, NotFed, FedTwice, NoValue, Trailing}
use Rattle.textfiles.specs.declared.flaws.Flaw.{Flaw}
use Rattle.textfiles.specs.declared.flaws.ReadError.{ReadError}
use Rattle.textfiles.specs.declared.flaws.ReadError.TheVariants.{Memory, Flawed}

abbrev pub sentence_of : What → List ℕ
sentence_of NotABit = codes "a vector has only the bytes 0 and 1"
sentence_of ShortVector = codes "the vector has fewer bits than the circuit has inputs"
sentence_of LongVector = codes "the vector has more bits than the circuit has inputs"
sentence_of NoName = codes "a name is missing here"
sentence_of UnknownName = codes "the circuit has no line of this name"
sentence_of NoSign = codes "after the name must stand /, . or ->"
sentence_of NoSlash = codes "after the pin must stand /"
sentence_of NoPin = codes "the gate has no such pin"
sentence_of NotFed = codes "this line feeds no pin of the gate"
sentence_of FedTwice = codes "this line feeds more than one pin of the gate"
sentence_of NoValue = codes "the value must be 0 or 1"
sentence_of Trailing = codes "nothing may stand after the value"

-- line and column, and a sentence
abbrev pub flaw_text : Flaw → List ℕ
flaw_text f = place_text f.place ++ (codes ": " ++ sentence_of f.what)

-- why a file is not read
abbrev pub error_text : ReadError → List ℕ
error_text Memory = codes "there is not enough memory"
error_text (Flawed f) = flaw_text f

-- a reader's answer is the wanted one, unless memory is wanting
abbrev pub Answers : {V X : Type 0} → (V → X) → Result V ReadError → Result X Flaw → Type 0
Answers view (Ok v) wanted = Ok (view v) ≡ wanted
Answers view (Err Memory) wanted = Unit {0}
Answers view (Err (Flawed f)) wanted = Err f ≡ wanted
