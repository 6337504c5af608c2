-- What a program says of a circuit or of a refusal.
use Rattle.std.specs.Prelude.{ℕ, List, ◌++◌, length, codes, decimal}
use Rattle.circuit.specs.Gates.{kind_word}
use Rattle.circuit.specs.Plans.{Plan}
use Rattle.circuit.specs.Refusals.{number_of, word_of, place_of, place_text, sentence_of}
use Rattle.circuit.specs.Shape.{inputs_in}
use Rattle.circuit.specs.Survey.{gates_of, depth_of}
use Rattle.circuit.specs.declared.kinds.Kind.{Kind}
use Rattle.circuit.specs.declared.refusals.Refusal.{Refusal}

-- file, line and column, number, word and sentence
abbrev pub refusal_line : List ℕ → Refusal → List ℕ
refusal_line file r =
    file ++ (codes ":" ++ (place_text (place_of r)
    ++ (codes ": refusal " ++ (decimal (number_of r) ++ (codes ", " ++ (word_of (number_of r) ++ (codes ": " ++ sentence_of r)))))))

-- how many of each a circuit has
abbrev pub sizes : Plan → List ℕ
sizes p =
    codes "lines " ++ (decimal (length p.lines) ++ (codes "\ninputs " ++ (decimal (inputs_in p.lines) ++ (codes "\noutputs " ++ (decimal (length p.outputs)
    ++ (codes "\ndepth " ++ (decimal (depth_of p.lines) ++ codes "\n")))))))

-- how many gates of a kind
abbrev pub kind_line : Plan → Kind → List ℕ
kind_line p k = kind_word k ++ (codes " " ++ (decimal (gates_of k p.lines) ++ codes "\n"))
