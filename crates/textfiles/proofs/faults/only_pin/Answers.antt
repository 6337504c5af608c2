use Rattle.std.proofs.Common.{Err, sym, ap, ◌∙◌}
use Rattle.textfiles.specs.Cursors.{spot}
use Rattle.textfiles.specs.Faults.{places_from, only}
use Rattle.textfiles.proofs.PinTurns.{not_fed, fed_once, fed_twice}
use Rattle.textfiles.proofs.faults.only_pin.Goals as goal

pub returns-in-None : goal.returns-in-None
returns-in-None c =
    let s = spot c.args.from in
    ap Err c.flaw.ensures
    ∙ sym (not_fed c.args.line s c.as_slice-pins.result.now (sym c.in-None.ensures))
    ∙ ap (λ qs. only s (places_from c.args.line 0 qs)) c.as_slice-pins.ensures.value

pub returns-in-Some : goal.returns-in-Some
returns-in-Some c =
    let s = spot c.args.from in
    ap Err c.flaw-in-Some.ensures
    ∙ sym (fed_twice c.args.line s c.as_slice-pins.result.now c.in-Some.pin (sym c.in-Some.ensures) (sym c.contains.ensures.value ∙ c.if-contains.true))
    ∙ ap (λ qs. only s (places_from c.args.line 0 qs)) c.as_slice-pins.ensures.value

pub returns-in-Some-2 : goal.returns-in-Some-2
returns-in-Some-2 c =
    let s = spot c.args.from in
    sym (fed_once c.args.line s c.as_slice-pins.result.now c.in-Some.pin (sym c.in-Some.ensures) (sym c.contains.ensures.value ∙ c.if-contains.false))
    ∙ ap (λ qs. only s (places_from c.args.line 0 qs)) c.as_slice-pins.ensures.value
