-- What the program says.
use Rattle.std.specs.Prelude.{ℕ, List, ◌++◌, codes, decimal}
use Rattle.simulation.specs.Refusals.{number_of, word_of, place_of, sentence_of}
use Rattle.simulation.specs.declared.refusals.Unfit.{Unfit}
use Rattle.textfiles.specs.Flaws.{flaw_text}
use Rattle.textfiles.specs.declared.flaws.Flaw.{Flaw}

-- number, word, the bit or the length, and sentence
abbrev pub unfit_line : Unfit → List ℕ
unfit_line u =
    codes "safd: refusal " ++ (decimal (number_of u) ++ (codes ", " ++ (word_of u ++ (codes " at " ++ (decimal (place_of u)
    ++ (codes ": " ++ sentence_of u))))))

-- what is wrong with a text: file, line and column, and a sentence
abbrev pub flaw_line : List ℕ → Flaw → List ℕ
flaw_line file f = file ++ (codes ":" ++ flaw_text f)
