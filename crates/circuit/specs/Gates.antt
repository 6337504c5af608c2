-- The words for the kinds of gate, how many pins a gate may have, and what it answers.
use Rattle.std.specs.Prelude.{ℕ, ◌+◌, Bool, true, false, cond, not, ◌&&◌, ◌||◌, List, [], ◌∷◌, length, Some, None, codes, Option, Result, nat_le, ◌==◌, slice_index, slice_index_or}
use Rattle.std.specs.Option.{ok_or}
use Rattle.circuit.specs.declared.kinds.UnknownKind.{UnknownKind}
use Rattle.circuit.specs.declared.kinds.Kind.{Kind}
use Rattle.circuit.specs.declared.kinds.Kind.TheVariants.{And, Nand, Or, Nor, Xor, Xnor, Not, Buff}

abbrev pub kind_word : Kind → List ℕ
kind_word And = codes "AND"
kind_word Nand = codes "NAND"
kind_word Or = codes "OR"
kind_word Nor = codes "NOR"
kind_word Xor = codes "XOR"
kind_word Xnor = codes "XNOR"
kind_word Not = codes "NOT"
kind_word Buff = codes "BUFF"

-- w has the bytes bs from place i on, and no others after
abbrev pub spells : List ℕ → ℕ → List ℕ → Bool
spells w i [] = length w == i
spells w i (b ∷ bs) = slice_index w i == b && spells w (i + 1) bs

abbrev pub kind_of : List ℕ → Option Kind
kind_of w =
    cond (spells w 0 (codes "AND")) (Some And) (
    cond (spells w 0 (codes "NAND")) (Some Nand) (
    cond (spells w 0 (codes "OR")) (Some Or) (
    cond (spells w 0 (codes "NOR")) (Some Nor) (
    cond (spells w 0 (codes "XOR")) (Some Xor) (
    cond (spells w 0 (codes "XNOR")) (Some Xnor) (
    cond (spells w 0 (codes "NOT")) (Some Not) (
    cond (spells w 0 (codes "BUFF")) (Some Buff) None)))))))

-- the kind that a word names, or that it names none
abbrev pub kind_read : List ℕ → Result Kind UnknownKind
kind_read w = ok_or (kind_of w) (record {})

-- what is said of a word that names none
abbrev pub unknown_kind : List ℕ
unknown_kind = codes "the word names no kind of gate"

-- NOT and BUFF have one pin, the others two to four
abbrev pub least : Kind → ℕ
least And = 2
least Nand = 2
least Or = 2
least Nor = 2
least Xor = 2
least Xnor = 2
least Not = 1
least Buff = 1

abbrev pub most : Kind → ℕ
most And = 4
most Nand = 4
most Or = 4
most Nor = 4
most Xor = 4
most Xnor = 4
most Not = 1
most Buff = 1

abbrev pub fits : Kind → ℕ → Bool
fits k n = nat_le (least k) n && nat_le n (most k)

abbrev pub differs : Bool → Bool → Bool
differs true b = not b
differs false b = b

-- each is 1
abbrev pub all : List Bool → Bool
all [] = true
all (b ∷ bs) = b && all bs

-- one at least is 1
abbrev pub any : List Bool → Bool
any [] = false
any (b ∷ bs) = b || any bs

-- an odd number of them are 1
abbrev pub odd : List Bool → Bool
odd [] = false
odd (b ∷ bs) = differs b (odd bs)

-- what a gate of the kind answers on its pins' values; NOT and BUFF look at the first pin alone
abbrev pub gate_on : Kind → List Bool → Bool
gate_on And bs = all bs
gate_on Nand bs = not (all bs)
gate_on Or bs = any bs
gate_on Nor bs = not (any bs)
gate_on Xor bs = odd bs
gate_on Xnor bs = not (odd bs)
gate_on Not bs = not (slice_index_or bs 0 false)
gate_on Buff bs = slice_index_or bs 0 false

-- what stands for a pin that the gate lacks
abbrev pub filler : Kind → Bool
filler And = true
filler Nand = true
filler Or = false
filler Nor = false
filler Xor = false
filler Xnor = false
filler Not = false
filler Buff = false
