use Rattle.std.proofs.Common.{rules}
use Rattle.std.proofs.Output.{has_written_append, has_written_of_eq}
use Rattle.textfiles.proofs.Digits.{next_bit}
use Rattle.textfiles.proofs.writing.BitsDisplay.fmt.Goals as goal

pub loop-place-preserved : goal.loop-place-preserved
loop-place-preserved g c =
    λ plain. has_written_of_eq _ _ _ _ _ (next_bit c.args.self.now.word c.loop-place.place) (has_written_append _ _ _ _ _ _ (c.loop-place.invariant plain) (search rules))
