use Rattle.std.proofs.Common.{◌≡◌, string_bytes}
use Rattle.textfiles.specs.Writing.{bits}
use Rattle.textfiles.proofs.writing.bits_text.Given as goal

abbrev pub invariant-loop-place : goal.invariant-loop-place
invariant-loop-place l = string_bytes l.text ≡ bits l.word l.place
