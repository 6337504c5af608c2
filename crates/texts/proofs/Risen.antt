-- What an accepted step says of its parts.
use Rattle.std.proofs.Common.{◌≡◌, Bool, true, false, Some, None, Ok, Err, Option, Result, refl, ap}
use Rattle.std.specs.Option.{ok_or}
use Rattle.texts.specs.Steps.{bind, unless}

pub bind_ok : {E X Y : Type 0} (r : Result X E) (f : X → Result Y E) (y : Y) → bind r f ≡ Ok y → (x : X) × (r ≡ Ok x) × (f x ≡ Ok y)
bind_ok (Ok x) f y e = (x, refl, e)
bind_ok (Err d) f y e = absurd (cc)

pub unless_ok : {E X : Type 0} (b : Bool) (d : E) (r : Result X E) (y : X) → unless b d r ≡ Ok y → (b ≡ false) × (r ≡ Ok y)
unless_ok true d r y e = absurd (cc)
unless_ok false d r y e = (refl, e)

pub ok_or_ok : {E X : Type 0} (o : Option X) (d : E) (x : X) → ok_or o d ≡ Ok x → o ≡ Some x
ok_or_ok None d x e = absurd (cc)
ok_or_ok (Some y) d x e = let z : y ≡ x = cc in ap (λ y. Some y) z
