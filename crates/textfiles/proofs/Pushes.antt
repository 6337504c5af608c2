-- One turn of a loop that pushes what a definition lists.
use Rattle.std.proofs.Common.{◌≡◌, ℕ, suc, ◌+◌, ◌-◌, ◌<◌, List, ◌++◌, sym, ap, ◌∙◌, arith}
use Rattle.std.proofs.lemmas.List.{append_assoc}
use Rattle.circuit.specs.declared.faults.Fault.{Fault}
use Rattle.circuit.specs.declared.faults.Site.TheVariants.{Pin}
use Rattle.textfiles.specs.Universe.{both, pin_faults}

-- what is listed next is pushed
turn : {X : Type 0} (xs ys now later all : List X) → ys ≡ xs ++ now → all ≡ now ++ later → ys ++ later ≡ xs ++ all
turn xs ys now later all e f = ap (λ l. l ++ later) e ∙ append_assoc xs now later ∙ ap (λ l. xs ++ l) (sym f)

one_less : (n count : ℕ) → n < count → count - n ≡ suc (count - (n + 1))
one_less n count h = omega arith

pub next_pin : (xs ys : List Fault) (l n count : ℕ) → n < count → ys ≡ xs ++ both (Pin l n) → ys ++ pin_faults l (n + 1) (count - (n + 1)) ≡ xs ++ pin_faults l n (count - n)
next_pin xs ys l n count h e = turn xs ys (both (Pin l n)) _ _ e (ap (pin_faults l n) (one_less n count h))
