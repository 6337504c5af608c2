-- What is refused before a vector is simulated.
use Rattle.std.specs.Prelude.{ℕ, zero, suc, ◌-◌, cond, length, Some, None, Ok, Err, Option, Result, nat_lt}
use Rattle.circuit.specs.Machines.{bit_of}
use Rattle.circuit.specs.Plans.{Plan}
use Rattle.circuit.specs.Shape.{inputs_in}
use Rattle.simulation.specs.declared.refusals.Unfit.{Unfit}
use Rattle.simulation.specs.declared.refusals.Unfit.TheVariants.{Stray, Short}

-- the lowest of the m bits from j on that is 1
abbrev pub lowest : ℕ → ℕ → ℕ → Option ℕ
lowest zero j v = None
lowest (suc m) j v = cond (bit_of v j) (Some j) (lowest m (suc j) v)

-- the lowest bit of the vector past n inputs
abbrev pub stray : ℕ → ℕ → Option ℕ
stray n v = lowest (64 - n) n v

abbrev pub unless_stray : Option ℕ → Result Unit Unfit → Result Unit Unfit
unless_stray None r = r
unless_stray (Some j) r = Err (Stray j)

-- a bit past the inputs, then the working table, then the row
abbrev pub checks : Plan → ℕ → ℕ → ℕ → ℕ → Result Unit Unfit
checks p faults v work row =
    unless_stray (stray (inputs_in p.lines) v)
    (cond (nat_lt work (length p.lines)) (Err (Short (length p.lines)))
    (cond (nat_lt row faults) (Err (Short faults))
    (Ok tt)))

-- a refusal, or else the answer
abbrev pub answered : {A : Type 0} → Result Unit Unfit → A → Result A Unfit
answered (Ok u) a = Ok a
answered (Err e) a = Err e

-- a table after the call: a refusal leaves it
abbrev pub after : {A : Type 0} → Result Unit Unfit → A → A → A
after (Ok u) new old = new
after (Err e) new old = old

-- one fact where the call is granted, another where it is refused
abbrev pub Granted : {A : Type 0} → Result A Unfit → Type 0 → Type 0 → Type 0
Granted (Ok a) P Q = P
Granted (Err e) P Q = Q
