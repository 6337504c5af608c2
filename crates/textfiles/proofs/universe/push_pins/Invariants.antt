use Rattle.std.proofs.Common.{◌≡◌, ◌-◌, ◌++◌, vec_items}
use Rattle.textfiles.specs.Universe.{pin_faults}
use Rattle.textfiles.proofs.universe.push_pins.Given as goal

abbrev pub invariant-loop-pin : goal.invariant-loop-pin
invariant-loop-pin l = vec_items l.faults ++ pin_faults l.line l.pin (l.count - l.pin) ≡ vec_items l.initial.faults ++ pin_faults l.line 0 l.count
