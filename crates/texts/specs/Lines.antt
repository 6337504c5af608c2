-- The lines of a text.
use Rattle.std.specs.Prelude.{ℕ, zero, suc, Bool, not, List, [], ◌∷◌, take, ◌==◌}
use Rattle.std.specs.List.{prefix_len}
use Rattle.texts.specs.declared.lines.Lines.{Lines}

-- a line ends at byte 0Ah
abbrev pub in_line : ℕ → Bool
in_line b = not (b == 10)

-- the lines of a text, of which the first k bytes belong to a line already told
abbrev pub lines_from : ℕ → List ℕ → List (List ℕ)
lines_from k [] = []
lines_from (suc k) (b ∷ bs) = lines_from k bs
lines_from zero (b ∷ bs) = take (prefix_len in_line (b ∷ bs)) (b ∷ bs) ∷ lines_from (prefix_len in_line (b ∷ bs)) bs

abbrev pub lines_of : List ℕ → List (List ℕ)
lines_of text = lines_from 0 text

-- the lines that are left
abbrev pub lines_left : Lines → List (List ℕ)
lines_left s = lines_of s.rest.now
