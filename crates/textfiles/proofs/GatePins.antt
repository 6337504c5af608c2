-- A gate of a circuit has at most four pins.
use Rattle.std.proofs.Common.{◌≡◌, ℕ, ◌<◌, ◌≤◌, List, length, get_or, Some, None, ◌∙◌, subst, ⊎_elim, arith, lit≤}
use Rattle.std.proofs.lemmas.Option.{slice_get-get_or, slice_get_past}
use Rattle.std.proofs.lemmas.Bool.{cases_lt}
use Rattle.std.specs.List.{slice_get}
use Rattle.circuit.specs.Gates.{most}
use Rattle.circuit.specs.Shape.{blank, Counted, pin_count, most_pins}
use Rattle.circuit.specs.declared.kinds.Kind.{Kind}
use Rattle.circuit.specs.declared.kinds.Kind.TheVariants.{And, Nand, Or, Nor, Xor, Xnor, Not, Buff}
use Rattle.circuit.specs.declared.lines.Line.{Line}
use Rattle.circuit.specs.declared.lines.Line.TheVariants.{Input, Gate}

few : (k : Kind) → most k ≤ 4
few And = lit≤ tt
few Nand = lit≤ tt
few Or = lit≤ tt
few Nor = lit≤ tt
few Xor = lit≤ tt
few Xnor = lit≤ tt
few Not = lit≤ tt
few Buff = lit≤ tt

few_pins : (l : Line) → most_pins l ≤ 4
few_pins (Input j) = lit≤ tt
few_pins (Gate g) = few g.kind

pub at_most_four : (ls : List Line) (i : ℕ) (l : Line) → Counted ls → Some l ≡ slice_get ls i → pin_count l ≤ 4
at_most_four ls i l counted e =
    ⊎_elim
    (λ (h : i < length ls).
    let same : Some l ≡ Some (get_or ls i blank) = e ∙ slice_get-get_or ls i blank h in
    let is : get_or ls i blank ≡ l = cc in
    subst (λ (x : Line). pin_count x ≤ 4) is (omega (arith, (counted i h).1, few_pins (get_or ls i blank))))
    (λ (h : length ls ≤ i). let none : Some l ≡ None = e ∙ slice_get_past ls i h in let z : ◌≡◌ {A = ℕ} 0 1 = cc in absurd (omega arith))
    (cases_lt i (length ls))
