use Rattle.std.proofs.Common.{◌≡◌, ℕ, ◌++◌, List}
use Rattle.circuit.specs.Machines.{binary, value_at, word_from}
use Rattle.circuit.specs.Plans.{plan}
use Rattle.simulation.specs.Lanes.{seen}
use Rattle.simulation.proofs.filing.read_word.Given as goal

abbrev pub invariant-loop-line : goal.invariant-loop-line
invariant-loop-line g l =
    (done : List ℕ) × ((plan l.circuit).outputs ≡ l.line-iterator.iter.rest.now ++ done) × (l.word ≡ word_from (value_at binary (seen g.M.Method.lane l.stems l.lane)) done)
