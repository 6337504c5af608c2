use Rattle.std.proofs.Common.{◌≡◌, true, length, Ok, sym, ap, ◌∙◌, arith}
use Rattle.netlist.specs.Tokens.{toks, after}
use Rattle.netlist.specs.Statements.{next_pin}
use Rattle.netlist.proofs.Gaps.{words_length}
use Rattle.netlist.proofs.PinTurns.{one_more, turn}
use Rattle.netlist.proofs.statements.read_pins.Goals as goal
use Rattle.netlist.proofs.statements.read_pins.Goals.{Then-branch}

yes_pin : (c : Then-branch) → next_pin (toks c.loop-count.sc) ≡ Ok true
yes_pin c = sym c.in_ok-next_pin.ensures.value ∙ ap (λ b. Ok b) c.if-branch.true

pub overflow_add-count : goal.overflow_add-count
overflow_add-count c =
    omega (
      arith,
      (turn (toks c.loop-count.sc) (yes_pin c)).1,
      c.loop-count.invariant.1,
      words_length c.next_token.new.self.line c.next_token.new.self.end 0 c.next_token.new.self.rest.now,
      c.next_token.new.self.short,
    )

pub loop-count-preserved : goal.loop-count-preserved
loop-count-preserved c =
    let t = (turn (toks c.loop-count.sc) (yes_pin c)).1 in
    let r : toks c.next_pin.new.sc ≡ after (after (toks c.loop-count.sc)) = c.next_pin.ensures.rest (yes_pin c) in (
      sym (one_more c.loop-count.count (toks c.loop-count.sc) (toks c.next_pin.new.sc) (yes_pin c) r) ∙ c.loop-count.invariant.0,
      omega (arith, t, c.loop-count.invariant.1, ap length r),
    )
