-- The tokens of a line.
use Rattle.std.specs.Prelude.{ℕ, zero, suc, ◌+◌, ◌-◌, Bool, true, false, cond, List, [], ◌∷◌, length, take, ◌==◌, slice_index}
use Rattle.std.specs.List.{prefix_len}
use Rattle.circuit.specs.declared.refusals.Place.{Place}
use Rattle.texts.specs.Bytes.{name_byte, space_byte}
use Rattle.netlist.specs.declared.tokens.scanner.Scanner.{Scanner}
use Rattle.netlist.specs.declared.tokens.Sort.{Sort}
use Rattle.netlist.specs.declared.tokens.Sort.TheVariants as sort
use Rattle.netlist.specs.declared.tokens.Token.{Token}

-- the bytes before the first token: separators, and a comment after them
abbrev pub gap : List ℕ → ℕ
gap [] = 0
gap (b ∷ bs) = cond (b == 35) (suc (length bs)) (cond (space_byte b) (suc (gap bs)) 0)

-- what a token says
pub data Word : Type 0 where
  name : List ℕ → Word
  open_sign : Word
  close_sign : Word
  comma : Word
  equals : Word
  stray : ℕ → Word
  end : Word

-- its bytes
abbrev pub spelling : Word → List ℕ
spelling (name bs) = bs
spelling open_sign = 40 ∷ []
spelling close_sign = 41 ∷ []
spelling comma = 44 ∷ []
spelling equals = 61 ∷ []
spelling (stray b) = b ∷ []
spelling end = []

abbrev pub first_byte : List ℕ → ℕ
first_byte bs = slice_index bs 0

-- a token: what it says, and where it stands
pub record Tok : Type 0 where
  pub word : Word
  pub place : Place

-- a word by its sort and its bytes
abbrev pub word_of : Sort → List ℕ → Word
word_of sort.Name bs = name bs
word_of sort.Open bs = open_sign
word_of sort.Close bs = close_sign
word_of sort.Comma bs = comma
word_of sort.Equals bs = equals
word_of sort.Stray bs = stray (first_byte bs)
word_of sort.End bs = end

abbrev pub seen : Token → Tok
seen t = record { word = word_of t.sort t.bytes.now; place = t.place }

abbrev pub sort_of : Word → Sort
sort_of (name bs) = sort.Name
sort_of open_sign = sort.Open
sort_of close_sign = sort.Close
sort_of comma = sort.Comma
sort_of equals = sort.Equals
sort_of (stray b) = sort.Stray
sort_of end = sort.End

abbrev pub order : Sort → ℕ
order sort.Name = 0
order sort.Open = 1
order sort.Close = 2
order sort.Comma = 3
order sort.Equals = 4
order sort.Stray = 5
order sort.End = 6

abbrev pub same_sort : Sort → Sort → Bool
same_sort a b = order a == order b

abbrev pub at : ℕ → ℕ → Word → Tok
at l c w = record { word = w; place = record { line = l; column = c } }

abbrev pub sign_word : ℕ → Word
sign_word b = cond (b == 40) open_sign (cond (b == 41) close_sign (cond (b == 44) comma (cond (b == 61) equals (stray b))))

-- the word that a text without a gap begins with
abbrev pub first_word : List ℕ → Word
first_word [] = end
first_word (b ∷ bs) = cond (name_byte b) (name (b ∷ take (prefix_len name_byte bs) bs)) (sign_word b)

-- the tokens of the rest of line l, which ends at column e, where the first k bytes belong to a token already told;
-- the last token stands where the line ends
abbrev pub words : ℕ → ℕ → ℕ → List ℕ → List Tok
words l e k [] = at l e end ∷ []
words l e (suc k) (b ∷ bs) = words l e k bs
words l e zero (b ∷ bs) =
    cond (b == 35) (at l e end ∷ [])
    (cond (space_byte b) (words l e 0 bs)
    (at l (e - suc (length bs)) (first_word (b ∷ bs)) ∷ words l e (cond (name_byte b) (prefix_len name_byte bs) 0) bs))

-- the tokens of a line
abbrev pub line_tokens : ℕ → List ℕ → List Tok
line_tokens l bs = words l (length bs + 1) 0 bs

abbrev pub is_end : Word → Bool
is_end (name bs) = false
is_end open_sign = false
is_end close_sign = false
is_end comma = false
is_end equals = false
is_end (stray b) = false
is_end end = true

-- the first token, and those after it: past the end comes the end again
abbrev pub first : List Tok → Tok
first [] = at 0 0 end
first (t ∷ ts) = t

abbrev pub after : List Tok → List Tok
after [] = []
after (t ∷ ts) = cond (is_end t.word) (t ∷ ts) ts

abbrev pub toks : Scanner → List Tok
toks s = words s.line s.end 0 s.rest.now
