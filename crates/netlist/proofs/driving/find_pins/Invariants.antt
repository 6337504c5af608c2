use Rattle.std.proofs.Common.{◌≡◌, ◌+◌, length}
use Rattle.circuit.specs.Plans.{plan_of}
use Rattle.netlist.specs.Tokens.{toks}
use Rattle.netlist.specs.Statements.{labels, pins_left}
use Rattle.netlist.specs.Driving.{resolve}
use Rattle.netlist.proofs.Resolved.{prepend}
use Rattle.netlist.proofs.driving.find_pins.Given as goal

abbrev pub invariant-loop-label : goal.invariant-loop-label
invariant-loop-label l =
    let left = pins_left l.label-iterator in
    (goal.iterator-loop-label).can_next l.label-iterator
    × (goal.iterator-loop-label).is_finite l.label-iterator
    × (prepend l.found (resolve (plan_of l.draft).names left) ≡ resolve (plan_of l.draft).names (labels l.pins.count (toks l.pins.scanner)))
    × (length l.found + length left ≡ l.pins.count)
