use Rattle.std.specs.Fmt.{HasWritten, IsPlainFormatter}
use Rattle.textfiles.specs.Writing.{bits}
use Rattle.textfiles.proofs.writing.BitsDisplay.fmt.Given as goal

abbrev pub invariant-loop-place : goal.invariant-loop-place
invariant-loop-place g l = IsPlainFormatter l.initial.f → HasWritten g.W.Write.write_str_gives l.initial.f (bits l.word l.place) l.f
