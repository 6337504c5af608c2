-- How many gates of a kind a circuit has, and how deep it is.
use Rattle.std.specs.Prelude.{◌≡◌, ℕ, ◌+◌, ◌<◌, max, Bool, false, List, [], ◌∷◌, ◌++◌, map, length, count_by, ◌==◌, slice_index, slice_index_or}
use Rattle.circuit.specs.Shape.{blank, pins_of, pin_count, pin_from}
use Rattle.circuit.specs.declared.kinds.Kind.{Kind}
use Rattle.circuit.specs.declared.kinds.Kind.TheVariants.{And, Nand, Or, Nor, Xor, Xnor, Not, Buff}
use Rattle.circuit.specs.declared.lines.Line.{Line}
use Rattle.circuit.specs.declared.lines.Line.TheVariants.{Input, Gate}

-- a kind's place among the eight
abbrev pub order : Kind → ℕ
order And = 0
order Nand = 1
order Or = 2
order Nor = 3
order Xor = 4
order Xnor = 5
order Not = 6
order Buff = 7

abbrev pub same_kind : Kind → Kind → Bool
same_kind a b = order a == order b

-- the line is driven by a gate of the kind
abbrev pub is_of : Kind → Line → Bool
is_of k (Input j) = false
is_of k (Gate g) = same_kind g.kind k

-- how many of the lines are driven by a gate of the kind
abbrev pub gates_of : Kind → List Line → ℕ
gates_of k ls = count_by (is_of k) ls

-- the largest of the numbers; 0 where there is none
abbrev pub highest : List ℕ → ℕ
highest [] = 0
highest (x ∷ xs) = max x (highest xs)

-- the levels of the lines that feed the pins
abbrev pub under : List ℕ → List ℕ → List ℕ
under ts ps = map (λ p. slice_index ts p) ps

-- a line's level, where ts has the levels of the earlier lines:
-- 0 at an input, and one more than the highest level at the pins of a gate
abbrev pub level_of : List ℕ → Line → ℕ
level_of ts (Input j) = 0
level_of ts (Gate g) = 1 + highest (under ts (pins_of (Gate g)))

-- the levels of the lines after those that have the levels ts
abbrev pub levels_from : List ℕ → List Line → List ℕ
levels_from ts [] = ts
levels_from ts (l ∷ ls) = levels_from (ts ++ level_of ts l ∷ []) ls

abbrev pub levels : List Line → List ℕ
levels ls = levels_from [] ls

-- the length of the longest way from an input
abbrev pub depth_of : List Line → ℕ
depth_of ls = highest (levels ls)

-- every line has a level: 0 at an input, one more than the highest of its pins' lines at a gate
pub record Levelled (ls : List Line) : Type 0 where
  pub one_each : length (levels ls) ≡ length ls
  pub by_pins : (i : ℕ) → i < length ls → slice_index (levels ls) i ≡ level_of (levels ls) (slice_index_or ls i blank)

-- every pin of the line is fed by one of the first n lines
abbrev pub FedBelow : ℕ → Line → Type 0
FedBelow n l = (p : ℕ) → p < pin_count l → pin_from l p < n
