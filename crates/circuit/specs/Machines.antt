-- Machines: a circuit with one fault or none, the values of its stems under a vector, its output word.
use Rattle.std.specs.Prelude.{◌≡◌, ℕ, suc, ◌+◌, ◌*◌, ◌/◌, ◌%◌, ◌^◌, ◌<◌, Bool, false, cond, ◌&&◌, List, [], ◌∷◌, ◌++◌, length, Some, None, Option, ◌==◌, bit_xor, slice_index_or}
use Rattle.circuit.specs.Gates.{gate_on}
use Rattle.circuit.specs.Plans.{Plan}
use Rattle.circuit.specs.Shape.{blank, pins_of}
use Rattle.circuit.specs.declared.kinds.Kind.{Kind}
use Rattle.circuit.specs.declared.faults.Site.{Site}
use Rattle.circuit.specs.declared.faults.Site.TheVariants.{Stem, Pin}
use Rattle.circuit.specs.declared.faults.Fault.{Fault}
use Rattle.circuit.specs.declared.lines.Line.{Line}
use Rattle.circuit.specs.declared.lines.Line.TheVariants.{Input, Gate}

-- a logic: what a gate of each kind answers on its pins' values, and the value of a line that is not there
pub record Logic (V : Type 0) : Type 0 where
  pub gate : Kind → List V → V
  pub none : V

-- what a machine forces a stem to, and a pin of the gate that drives a line; nothing where it leaves them alone
pub record Effect (V : Type 0) : Type 0 where
  pub stem : ℕ → Option V
  pub pin : ℕ → ℕ → Option V

-- the forced value, or the value that stands there where none is forced
abbrev pub forced : {V : Type 0} → Option V → V → V
forced None v = v
forced (Some w) v = w

-- the values at a gate's pins from pin p on, where the lines ks feed them; the gate drives line i, and line k has the value `seen k`
abbrev pub pins_seen : {V : Type 0} → Effect V → (ℕ → V) → ℕ → ℕ → List ℕ → List V
pins_seen e seen i p [] = []
pins_seen e seen i p (k ∷ ks) = forced (e.pin i p) (seen k) ∷ pins_seen e seen i (suc p) ks

-- what drives line i, where input j has the value `given j`
abbrev pub driven : {V : Type 0} → Logic V → Effect V → (ℕ → V) → (ℕ → V) → ℕ → Line → V
driven g e given seen i (Input j) = given j
driven g e given seen i (Gate x) = g.gate x.kind (pins_seen e seen i 0 (pins_of (Gate x)))

-- the value of line i's stem
abbrev pub stem_value : {V : Type 0} → Logic V → Effect V → (ℕ → V) → (ℕ → V) → ℕ → Line → V
stem_value g e given seen i l = forced (e.stem i) (driven g e given seen i l)

-- the value of a line, where vs has the values of the lines
abbrev pub value_at : {V : Type 0} → Logic V → List V → ℕ → V
value_at g vs k = slice_index_or vs k g.none

-- the stems' values, where vs has those of the lines before
abbrev pub values_from : {V : Type 0} → Logic V → Effect V → (ℕ → V) → List V → List Line → List V
values_from g e given vs [] = vs
values_from g e given vs (l ∷ ls) = values_from g e given (vs ++ stem_value g e given (value_at g vs) (length vs) l ∷ []) ls

abbrev pub values : {V : Type 0} → Logic V → Effect V → (ℕ → V) → List Line → List V
values g e given ls = values_from g e given [] ls

-- one value for each line: what its pins, its input and the machine give it
pub record Settled {V : Type 0} (g : Logic V) (e : Effect V) (given : ℕ → V) (ls : List Line) (vs : List V) : Type 0 where
  pub one_each : length vs ≡ length ls
  pub by_rule : (i : ℕ) → i < length ls → value_at g vs i ≡ stem_value g e given (value_at g vs) i (slice_index_or ls i blank)

-- the logic of 0 and 1
abbrev pub binary : Logic Bool
binary = record { gate = gate_on; none = false }

abbrev pub same_site : Site → Site → Bool
same_site (Stem i) (Stem j) = i == j
same_site (Stem i) (Pin j q) = false
same_site (Pin i p) (Stem j) = false
same_site (Pin i p) (Pin j q) = i == j && p == q

-- the fault-free circuit, or the circuit with one fault
abbrev pub Machine : Type 0
Machine = Option Fault

-- what a machine forces a site to
abbrev pub forces : Machine → Site → Option Bool
forces None s = None
forces (Some f) s = cond (same_site f.site s) (Some f.stuck) None

abbrev pub effect : Machine → Effect Bool
effect m = record { stem = λ i. forces m (Stem i); pin = λ i p. forces m (Pin i p) }

-- bit j of a number
abbrev pub bit_of : ℕ → ℕ → Bool
bit_of n j = n / 2 ^ j % 2 == 1

-- the stems' values in a machine under the vector v: bit j of the vector is input j
abbrev pub stems : Machine → ℕ → List Line → List Bool
stems m v ls = values binary (effect m) (bit_of v) ls

-- a word has its first bit at bit 0
abbrev pub word_from : (ℕ → Bool) → List ℕ → ℕ
word_from seen [] = 0
word_from seen (k ∷ ks) = cond (seen k) 1 0 + 2 * word_from seen ks

-- a machine's output word: output j at bit j
abbrev pub word : Plan → Machine → ℕ → ℕ
word p m v = word_from (value_at binary (stems m v p.lines)) p.outputs

-- a fault's fail word
abbrev pub fail_word : Plan → Fault → ℕ → ℕ
fail_word p f v = bit_xor (word p (Some f) v) (word p None v)

-- the vector tells the two machines apart
abbrev pub Distinguishes : Plan → ℕ → Machine → Machine → Type 0
Distinguishes p v m n = word p m v ≡ word p n v → ⊥

-- the vector tells the machine with the fault from the fault-free circuit
abbrev pub Detects : Plan → ℕ → Fault → Type 0
Detects p v f = Distinguishes p v (Some f) None
