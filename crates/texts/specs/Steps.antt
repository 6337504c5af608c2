-- Steps of a reader, each of which may be refused.
use Rattle.std.specs.Prelude.{Bool, cond, Ok, Err, Result}

-- one thing, and then what it leads to; an error rises unchanged
abbrev pub bind : {E X Y : Type 0} → Result X E → (X → Result Y E) → Result Y E
bind (Ok x) f = f x
bind (Err e) f = Err e

-- the error, where its condition holds
abbrev pub unless : {E X : Type 0} → Bool → E → Result X E → Result X E
unless b e r = cond b (Err e) r
