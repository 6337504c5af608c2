use Rattle.std.proofs.Common.{◌≡◌, ◌+◌, ◌*◌, ◌≤◌, length}
use Rattle.netlist.specs.Tokens.{toks}
use Rattle.netlist.specs.Statements.{plus, more_pins}
use Rattle.netlist.proofs.statements.read_pins.Given as goal

abbrev pub invariant-loop-count : goal.invariant-loop-count
invariant-loop-count l = (plus l.count (more_pins (toks l.sc)) ≡ plus 1 (more_pins (toks l.initial.sc)))
    × (2 * l.count + length (toks l.sc) ≤ 2 + length (toks l.initial.sc))

abbrev pub decreases-loop-count : goal.decreases-loop-count
decreases-loop-count l = length (toks l.sc)
