-- Errors, and options that have nothing.
use Rattle.std.proofs.Common.{◌≡◌, false, true, is_some, Some, None, Err, Option, refl}
use Rattle.std.proofs.lemmas.Bool.{both_ways}
use Rattle.std.specs.Option.{ok_or}
use Rattle.std.specs.Result.{result_or}

-- another error in the place of one
pub other_error : {X E F : Type 0} (o : Option X) (e : E) (f : F) → result_or (ok_or o e) (Err f) ≡ ok_or o f
other_error None e f = refl
other_error (Some x) e f = refl

pub not_some : {X : Type 0} (o : Option X) → is_some o ≡ false → o ≡ None
not_some None e = refl
not_some (Some x) e = absurd (both_ways true e refl)
