-- What the program is asked to do.
use Rattle.std.specs.Prelude.{ℕ, cond, List, [], ◌∷◌, codes}
use Rattle.std.specs.Str.{bytes_eq}
use Rattle.safd.specs.declared.commands.Command.{Command}
use Rattle.safd.specs.declared.commands.Command.TheVariants.{Help, Check, Bench, Tour, Unknown}

pub data Asked : Type 0 where
  help : Asked
  check : List ℕ → Asked
  bench : List ℕ → Asked
  tour : Asked
  unknown : Asked

abbrev pub asked : Command → Asked
asked Help = help
asked (Check f) = check f.now
asked (Bench f) = bench f.now
asked Tour = tour
asked Unknown = unknown

-- a command of one word
abbrev pub alone_of : List ℕ → Asked
alone_of w = cond (bytes_eq w (codes "help")) help (cond (bytes_eq w (codes "tour")) tour unknown)

-- a command about a file
abbrev pub about_of : List ℕ → List ℕ → Asked
about_of w f = cond (bytes_eq w (codes "check")) (check f) (cond (bytes_eq w (codes "bench")) (bench f) unknown)

-- the words after the program's name
abbrev pub command_of : List (List ℕ) → Asked
command_of [] = unknown
command_of (w ∷ []) = alone_of w
command_of (w ∷ f ∷ []) = about_of w f
command_of (w ∷ f ∷ g ∷ ws) = unknown
