-- Names of lines, and the first place at which one stands.
use Rattle.std.specs.Prelude.{ℕ, ◌+◌, ◌*◌, ◌%◌, ◌^◌, cond, fold, List, [], ◌∷◌, Some, None, Option}
use Rattle.std.specs.Str.{bytes_eq}

-- the first place at which the word stands, where the first name has place i
abbrev pub find_from : ℕ → List (List ℕ) → List ℕ → Option ℕ
find_from i [] w = None
find_from i (n ∷ ns) w = cond (bytes_eq n w) (Some i) (find_from (i + 1) ns w)

abbrev pub find : List (List ℕ) → List ℕ → Option ℕ
find ns w = find_from 0 ns w

-- a number that equal words share, so that most unequal words are told apart without a look at their bytes
abbrev pub print_of : List ℕ → ℕ
print_of w = fold (λ h b. (h * 31 % 2 ^ 64 + b) % 2 ^ 64) 0 w
