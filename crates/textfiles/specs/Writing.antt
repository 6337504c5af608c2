-- Faults, vectors and output words as text.
use Rattle.std.specs.Prelude.{ℕ, zero, suc, ◌/◌, ◌%◌, min, Bool, true, false, cond, List, [], ◌∷◌, ◌++◌, Some, None, codes, decimal, Option, ◌==◌}
use Rattle.std.specs.List.{slice_get}
use Rattle.circuit.specs.Plans.{Plan, line_of}
use Rattle.circuit.specs.declared.faults.Fault.{Fault}
use Rattle.circuit.specs.declared.faults.Site.{Site}
use Rattle.circuit.specs.declared.faults.Site.TheVariants.{Stem, Pin}

-- the character of bit 0
abbrev pub low_bit : ℕ → ℕ
low_bit w = cond (w % 2 == 1) 49 48

-- the first n bits of a word, bit 0 leftmost
abbrev pub bits : ℕ → ℕ → List ℕ
bits w zero = []
bits w (suc n) = low_bit w ∷ bits (w / 2) n

-- a word has 64 bits
abbrev pub bits_text : ℕ → ℕ → List ℕ
bits_text w n = bits w (min n 64)

abbrev pub log_line : ℕ → ℕ → ℕ → ℕ → List ℕ
log_line v inputs w outputs = bits_text v inputs ++ codes " " ++ bits_text w outputs

-- no bytes where there is no name
abbrev pub spelled : Option (List ℕ) → List ℕ
spelled None = []
spelled (Some w) = w

-- the name of the line at which a fault sits
abbrev pub name_of : Plan → Fault → List ℕ
name_of p f = spelled (slice_get p.names (line_of f.site))

abbrev pub value_text : Bool → List ℕ
value_text false = codes "0"
value_text true = codes "1"

-- what stands after the name
abbrev pub after_name : Site → Bool → List ℕ
after_name (Stem l) v = codes "/" ++ value_text v
after_name (Pin l n) v = codes "." ++ (decimal n ++ (codes "/" ++ value_text v))

-- a fault of a line of that name
abbrev pub fault_text : List ℕ → Fault → List ℕ
fault_text name f = name ++ after_name f.site f.stuck
