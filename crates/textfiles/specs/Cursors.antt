-- What is left of an item, and where it stands.
use Rattle.std.specs.Prelude.{ℕ, ◌+◌, ◌-◌, Bool, not, ◌||◌, List, length, take, drop, ◌==◌, slice_index}
use Rattle.std.specs.List.{prefix_len, suffix_len}
use Rattle.texts.specs.Bytes.{name_byte, space_byte}
use Rattle.textfiles.specs.declared.cursors.Class.{Class}
use Rattle.textfiles.specs.declared.cursors.Class.TheVariants.{Content, Blank, Space, Name}
use Rattle.textfiles.specs.declared.cursors.Cursor.{Cursor}
use Rattle.textfiles.specs.declared.flaws.What.{What}
use Rattle.textfiles.specs.declared.flaws.Flaw.{Flaw}

-- the content of a line goes up to `#`
abbrev pub has : Class → ℕ → Bool
has Content b = not (b == 35)
has Blank b = space_byte b
has Space b = b == 32 || b == 9
has Name b = name_byte b

-- how many bytes of the class stand in front
abbrev pub run : Class → List ℕ → ℕ
run c bs = prefix_len (has c) bs

-- the rest of an item on a line, where the item ends before a column
pub record Spot : Type 0 where
  pub rest : List ℕ
  pub line : ℕ
  pub end : ℕ

abbrev pub spot : Cursor → Spot
spot c = record { rest = c.rest.now; line = c.line; end = c.end }

-- the first byte, which a sign or a digit is compared with
abbrev pub byte : Spot → ℕ
byte s = slice_index s.rest 0

abbrev pub skip : ℕ → Spot → Spot
skip n s = record { rest = drop n s.rest; line = s.line; end = s.end }

-- past the bytes of a class
abbrev pub past : Class → Spot → Spot
past c s = skip (run c s.rest) s

-- a flaw at the first byte of the rest
abbrev pub flaw : Spot → What → Flaw
flaw s w = record { place = record { line = s.line; column = s.end - length s.rest }; what = w }

-- how many bytes there are without the blanks at the end
abbrev pub shut : List ℕ → ℕ
shut bs = length bs - suffix_len (has Blank) bs

-- the item among these bytes of a line: they without the blanks around
abbrev pub item : ℕ → List ℕ → Spot
item l bs = past Blank (record { rest = take (shut bs) bs; line = l; end = length (take (shut bs) bs) + 1 })
