-- The notation as a relation: which bytes spell which statements, and which statements make which circuit.
use Rattle.std.specs.Prelude.{◌≡◌, ℕ, ◌<◌, ◌≤◌, Bool, true, false, not, List, [], ◌∷◌, ◌++◌, map, filter, length, Some, Ok, codes, Result, ◌≢◌, slice_index_or}
use Rattle.std.specs.List.{AllByRecursion}
use Rattle.circuit.specs.Gates.{kind_word}
use Rattle.circuit.specs.Names.{find}
use Rattle.circuit.specs.Plans.{Plan, Sound}
use Rattle.circuit.specs.Shape.{pins_of}
use Rattle.circuit.specs.declared.kinds.Kind.{Kind}
use Rattle.circuit.specs.declared.lines.Line.{Line}
use Rattle.circuit.specs.declared.lines.Line.TheVariants.{Input, Gate}
use Rattle.circuit.specs.declared.refusals.Refusal.{Refusal}
use Rattle.texts.specs.Bytes.{name_byte, space_byte}
use Rattle.netlist.specs.Tokens.{Word, name, open_sign, close_sign, comma, equals, stray, end, spelling}
use Rattle.texts.specs.Lines.{in_line}

-- a statement by its names
pub data Said : Type 0 where
  input : List ℕ → Said
  output : List ℕ → Said
  gate : List ℕ → Kind → List (List ℕ) → Said

-- names with commas between them, and the closing sign
abbrev pub pin_words : List (List ℕ) → List Word
pin_words [] = close_sign ∷ []
pin_words (n ∷ []) = name n ∷ close_sign ∷ []
pin_words (n ∷ m ∷ ns) = name n ∷ comma ∷ pin_words (m ∷ ns)

-- a statement's tokens, in order
abbrev pub words_of : Said → List Word
words_of (input n) = name (codes "INPUT") ∷ open_sign ∷ name n ∷ close_sign ∷ []
words_of (output n) = name (codes "OUTPUT") ∷ open_sign ∷ name n ∷ close_sign ∷ []
words_of (gate n k ns) = name n ∷ equals ∷ name (kind_word k) ∷ open_sign ∷ pin_words ns

-- a name has one or more letters, digits and underscores
abbrev pub Written : Word → Type 0
Written (name bs) = (1 ≤ length bs) × AllByRecursion (λ b. name_byte b ≡ true) bs
Written open_sign = Unit {0}
Written close_sign = Unit {0}
Written comma = Unit {0}
Written equals = Unit {0}
Written (stray b) = ⊥
Written end = ⊥

abbrev pub begins_name : List ℕ → Bool
begins_name [] = false
begins_name (b ∷ bs) = name_byte b

-- what follows a name does not go on with it
abbrev pub Apart : Word → List ℕ → Type 0
Apart (name n) bs = begins_name bs ≡ false
Apart open_sign bs = Unit {0}
Apart close_sign bs = Unit {0}
Apart comma bs = Unit {0}
Apart equals bs = Unit {0}
Apart (stray b) bs = Unit {0}
Apart end bs = Unit {0}

-- a line's bytes are these words in order, with separators before, between and after them, and a comment or nothing at the end
pub data Spells : List ℕ → List Word → Type 0 where
  nothing : Spells [] []
  comment : (bs : List ℕ) → Spells (35 ∷ bs) []
  separator : {b : ℕ} {bs : List ℕ} {ws : List Word} → space_byte b ≡ true → Spells bs ws → Spells (b ∷ bs) ws
  word : {w : Word} {bs : List ℕ} {ws : List Word} → Written w → Apart w bs → Spells bs ws → Spells (spelling w ++ bs) (w ∷ ws)

-- a gate has a pin, and its line is not named INPUT or OUTPUT: such a first word settles the form
abbrev pub Proper : Said → Type 0
Proper (input n) = Unit {0}
Proper (output n) = Unit {0}
Proper (gate n k ns) = (1 ≤ length ns) × (n ≢ codes "INPUT") × (n ≢ codes "OUTPUT")

-- a line holds one statement, or none
pub data Holds : List ℕ → List Said → Type 0 where
  none : {bs : List ℕ} → Spells bs [] → Holds bs []
  one : {bs : List ℕ} {s : Said} → Proper s → Spells bs (words_of s) → Holds bs (s ∷ [])

-- the statements of a text, line by line; the last line need not end
pub data Text : List ℕ → List Said → Type 0 where
  last : {bs : List ℕ} {ss : List Said} → AllByRecursion (λ b. in_line b ≡ true) bs → Holds bs ss → Text bs ss
  line : {bs rest : List ℕ} {ss more : List Said} → AllByRecursion (λ b. in_line b ≡ true) bs → Holds bs ss → Text rest more → Text (bs ++ 10 ∷ rest) (ss ++ more)

abbrev pub name_at : Plan → ℕ → List ℕ
name_at p i = slice_index_or p.names i []

-- the statement that drives a line
abbrev pub driver : Plan → List ℕ → Line → Said
driver p n (Input j) = input n
driver p n (Gate g) = gate n g.kind (map (name_at p) (pins_of (Gate g)))

abbrev pub drivers : Plan → List (List ℕ) → List Line → List Said
drivers p [] ls = []
drivers p (n ∷ ns) [] = []
drivers p (n ∷ ns) (l ∷ ls) = driver p n l ∷ drivers p ns ls

abbrev pub drives : Said → Bool
drives (input n) = true
drives (output n) = false
drives (gate n k ns) = true

-- the statements that drive lines, and those that show outputs, each in their order
abbrev pub driving : List Said → List Said
driving ss = filter drives ss

abbrev pub showing : List Said → List Said
showing ss = filter (λ s. not (drives s)) ss

-- statements make a circuit: they are those of its lines and of its outputs, each in order, and it is sound
pub record Makes (ss : List Said) (p : Plan) : Type 0 where
  pub sound : Sound p
  pub lines : driving ss ≡ drivers p p.names p.lines
  pub outputs : showing ss ≡ map (λ o. output (name_at p o)) p.outputs

-- a text is accepted as a circuit: its lines spell statements, or nothing, that make it
pub record Accepted (text : List ℕ) (p : Plan) : Type 0 where
  pub short : length text ≤ 65536
  pub statements : List Said
  pub spelt : Text text statements
  pub make : Makes statements p

-- a reading that answers r and leaves the circuit p is lawful: it accepts exactly the texts that the grammar accepts,
-- as their circuit, and every line's name is found at that line
pub record Lawful (text : List ℕ) (r : Result (Unit {0}) Refusal) (p : Plan) : Type 0 where
  pub accepts : (q : Plan) → Accepted text q → (r ≡ Ok tt) × (p ≡ q)
  pub accepted : r ≡ Ok tt → Accepted text p
  pub found : r ≡ Ok tt → (i : ℕ) → i < length p.names → find p.names (name_at p i) ≡ Some i
