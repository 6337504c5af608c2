use Rattle.std.proofs.Common.{◌≡◌, ◌+◌, ◌≤◌, length}
use Rattle.std.specs.Iterator.Adapters.{enumerate_source, enumerate_count}
use Rattle.std.specs.List.{AllByRecursion}
use Rattle.circuit.specs.Plans.{plan_of}
use Rattle.texts.specs.Lines.{lines_of, lines_left}
use Rattle.netlist.specs.Reading.{tell}
use Rattle.netlist.proofs.reading.read_lines.Given as goal

abbrev pub invariant-loop-i : goal.invariant-loop-i
invariant-loop-i g l =
    let left = lines_left (enumerate_source l.i-iterator) in
    (goal.iterator-loop-i g).can_next l.i-iterator
    × (goal.iterator-loop-i g).is_finite l.i-iterator
    × (tell g.P.Pass.step (enumerate_count l.i-iterator + 1) (g.P.Pass.seen l.pass (plan_of l.draft)) left ≡ tell g.P.Pass.step 1 (g.P.Pass.seen l.initial.pass (plan_of l.initial.draft)) (lines_of l.text))
    × AllByRecursion (λ x. length x ≤ 65536) left
