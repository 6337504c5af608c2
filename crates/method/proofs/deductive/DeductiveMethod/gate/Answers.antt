use Rattle.std.proofs.Common.{◌≡◌, ℕ, zero, suc, ◌-◌, ◌<◌, false, eqb, [], ◌∷◌, sym, ◌∙◌, arith}
use Rattle.std.proofs.lemmas.Bool.{ne_eqb}
use Rattle.circuit.specs.Gates.{gate_on}
use Rattle.circuit.specs.Machines.{bit_of}
use Rattle.method.proofs.WordBits.{differ_back, gate_same}
use Rattle.method.proofs.deductive.DeductiveMethod.gate.Goals as goal

-- every bit of the first word is the fault-free answer
good : (c : goal.After-bit) (l : ℕ) → l < 64 → bit_of c.gate-good.result l ≡ gate_on c.args.kind (c.args.a.good ∷ c.args.b.good ∷ c.args.c.good ∷ c.args.d.good ∷ [])
good c l h = c.gate-good.ensures l h ∙ gate_same _ (c.all.ensures l h) (c.all-2.ensures l h) (c.all-3.ensures l h) (c.all-4.ensures l h)

pub returns : goal.returns
returns c zero h = c.bit.ensures ∙ good c 0 (omega arith)
returns c (suc l) h =
    let k = suc l - 1 in
    let lt : suc l - 1 < 64 = omega arith in
    let z : eqb (suc l) 0 ≡ false = ne_eqb (suc l) 0 (λ e. omega arith) in
    simp z (differ_back _ _ c.gate-word.result k (good c k lt ∙ sym (good c 0 (omega arith)) ∙ sym c.bit.ensures) ∙ c.gate-word.ensures k lt
    ∙ gate_same _ (c.plain.ensures k lt) (c.plain-2.ensures k lt) (c.plain-3.ensures k lt) (c.plain-4.ensures k lt))
