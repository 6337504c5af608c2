-- The register of refusals: number, word, place and sentence of each.
use Rattle.std.specs.Prelude.{ℕ, List, codes}
use Rattle.simulation.specs.declared.refusals.Unfit.{Unfit}
use Rattle.simulation.specs.declared.refusals.Unfit.TheVariants.{Stray, Short}

abbrev pub number_of : Unfit → ℕ
number_of (Stray n) = 12
number_of (Short n) = 13

abbrev pub word_of : Unfit → List ℕ
word_of (Stray n) = codes "stray"
word_of (Short n) = codes "short"

-- the lowest bit past the inputs, or the length needed
abbrev pub place_of : Unfit → ℕ
place_of (Stray n) = n
place_of (Short n) = n

-- why a vector is not simulated
abbrev pub sentence_of : Unfit → List ℕ
sentence_of (Stray n) = codes "the vector has a bit past the inputs"
sentence_of (Short n) = codes "a table is too short"
