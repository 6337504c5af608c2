use Rattle.std.proofs.Common.{◌≡◌}
use Rattle.netlist.specs.Tokens.{toks}
use Rattle.netlist.specs.Statements.{labels, pins_left}
use Rattle.netlist.specs.Driving.{short_pins}
use Rattle.netlist.proofs.driving.want_short_pins.Given as goal

abbrev pub invariant-loop-label : goal.invariant-loop-label
invariant-loop-label l =
    (goal.iterator-loop-label).can_next l.label-iterator
    × (goal.iterator-loop-label).is_finite l.label-iterator
    × (short_pins (pins_left l.label-iterator) ≡ short_pins (labels l.pins.count (toks l.pins.scanner)))
