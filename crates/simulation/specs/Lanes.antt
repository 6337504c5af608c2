-- The faults of a batch in their lanes, and which of them sit at a line.
use Rattle.std.specs.Prelude.{◌≡◌, ℕ, zero, suc, ◌+◌, ◌≤◌, Bool, false, cond, List, [], ◌∷◌, map, length, get_or, take, Some, None, Option, ◌==◌, nat_lt, slice_index, slice_index_or}
use Rattle.circuit.specs.Gates.{filler}
use Rattle.circuit.specs.Machines.{Machine, Effect, forced, stems, binary, value_at, word_from}
use Rattle.circuit.specs.Plans.{line_of}
use Rattle.circuit.specs.declared.lines.Gate.{Gate as GateT}
use Rattle.circuit.specs.declared.lines.Line.{Line}
use Rattle.circuit.specs.declared.faults.Site.TheVariants.{Stem}
use Rattle.circuit.specs.declared.faults.Fault.{Fault}

-- the machine of a lane: lane 0 has no fault, fault i of the batch stands in lane i + 1, the lanes past them have none
abbrev pub machine_at : List Fault → ℕ → Machine
machine_at fs l = slice_index_or (None ∷ map Some fs) l None

-- a lane of a table of values
abbrev pub seen : {X : Type 0} → (X → ℕ → Bool) → List X → ℕ → List Bool
seen lane xs l = map (λ x. lane x l) xs

-- the output word of a lane, where the table has the stems' values
abbrev pub lane_word : {X : Type 0} → (X → ℕ → Bool) → List X → List ℕ → ℕ → ℕ
lane_word lane xs outs l = word_from (value_at binary (seen lane xs l)) outs

-- the first entries of a working table, one per line, hold the stems' values in every lane
abbrev pub Shows : {X : Type 0} → (X → ℕ → Bool) → ℕ → List Fault → ℕ → List Line → List X → Type 0
Shows lane count fs v ls work = (l : ℕ) → l ≤ count → seen lane (take (length ls) work) l ≡ stems (machine_at fs l) v ls

-- pin p of the gate that drives line i, or what stands for it where the gate lacks it
abbrev pub pin_or : Effect Bool → (ℕ → Bool) → ℕ → GateT → ℕ → Bool
pin_or e value i g p = cond (nat_lt p (length g.pins)) (forced (e.pin i p) (value (slice_index g.pins p))) (filler g.kind)

-- a list's default fault
abbrev pub no_fault : Fault
no_fault = record { site = Stem 0; stuck = false }

abbrev pub line_at : List Fault → ℕ → ℕ
line_at fs i = line_of (get_or fs i no_fault).site

-- the last of the first n faults that sits at line g
abbrev pub latest : List Fault → ℕ → ℕ → Option ℕ
latest fs g zero = None
latest fs g (suc n) = cond (line_at fs n == g) (Some n) (latest fs g n)

-- those of the first n faults that sit at line g, the last first, each with its lane
abbrev pub at_line : List Fault → ℕ → ℕ → List (ℕ × Fault)
at_line fs g zero = []
at_line fs g (suc n) = cond (line_at fs n == g) ((n + 1, slice_index_or fs n no_fault) ∷ at_line fs g n) (at_line fs g n)

-- a fault of a batch, and those before it at its line
abbrev pub left : List Fault → Option ℕ → List (ℕ × Fault)
left fs None = []
left fs (Some i) = (i + 1, slice_index_or fs i no_fault) ∷ at_line fs (line_at fs i) i
