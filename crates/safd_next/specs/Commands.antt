-- What the program is asked to do.
use Rattle.std.specs.Prelude.{ℕ, cond, List, [], ◌∷◌, codes}
use Rattle.std.specs.Str.{bytes_eq}
use Rattle.safd_next.specs.declared.commands.Command.{Command}
use Rattle.safd_next.specs.declared.commands.Command.TheVariants.{Help, Tour, Check, Faults, Bench, Simulate, Inject, Time, Unknown}

pub data Asked : Type 0 where
  help : Asked
  tour : Asked
  check : List ℕ → Asked
  faults : List ℕ → Asked
  bench : List ℕ → Asked
  simulate : List ℕ → List ℕ → Asked
  inject : List ℕ → List ℕ → List ℕ → Asked
  time : List ℕ → List ℕ → List ℕ → Asked
  unknown : Asked

abbrev pub asked : Command → Asked
asked Help = help
asked Tour = tour
asked (Check n) = check n.now
asked (Faults n) = faults n.now
asked (Bench n) = bench n.now
asked (Simulate n v) = simulate n.now v.now
asked (Inject n v f) = inject n.now v.now f.now
asked (Time n f v) = time n.now f.now v.now
asked Unknown = unknown

-- a command of one word
abbrev pub alone_of : List ℕ → Asked
alone_of w = cond (bytes_eq w (codes "help")) help (cond (bytes_eq w (codes "tour")) tour unknown)

-- a command about a netlist
abbrev pub about_of : List ℕ → List ℕ → Asked
about_of w n =
    cond (bytes_eq w (codes "check")) (check n)
    (cond (bytes_eq w (codes "faults")) (faults n)
    (cond (bytes_eq w (codes "bench")) (bench n) unknown))

-- a command about a netlist and vectors
abbrev pub with_of : List ℕ → List ℕ → List ℕ → Asked
with_of w n v = cond (bytes_eq w (codes "simulate")) (simulate n v) unknown

-- a command about a netlist and two things more
abbrev pub among_of : List ℕ → List ℕ → List ℕ → List ℕ → Asked
among_of w n a b = cond (bytes_eq w (codes "simulate")) (inject n a b) (cond (bytes_eq w (codes "bench")) (time n a b) unknown)

-- the words after the program's name
abbrev pub command_of : List (List ℕ) → Asked
command_of [] = unknown
command_of (w ∷ []) = alone_of w
command_of (w ∷ n ∷ []) = about_of w n
command_of (w ∷ n ∷ v ∷ []) = with_of w n v
command_of (w ∷ n ∷ a ∷ b ∷ []) = among_of w n a b
command_of (w ∷ n ∷ a ∷ b ∷ c ∷ ws) = unknown
