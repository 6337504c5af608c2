use Rattle.std.proofs.Common.{◌++◌, ap, ◌∙◌}
use Rattle.textfiles.specs.Writing.{bits}
use Rattle.textfiles.proofs.Digits.{next_bit}
use Rattle.textfiles.proofs.writing.bits_text.Goals as goal

pub loop-place-preserved : goal.loop-place-preserved
loop-place-preserved c =
    c.in_ok-push_str.ensures.bytes
    ∙ ap (λ bs. bs ++ c.bit_at.result.now) c.loop-place.invariant
    ∙ ap (λ bs. bits c.args.word c.loop-place.place ++ bs) c.bit_at.ensures
    ∙ next_bit c.args.word c.loop-place.place
