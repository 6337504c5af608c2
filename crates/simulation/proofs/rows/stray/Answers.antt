use Rattle.std.proofs.Common.{◌≡◌, ◌-◌, true, false, ap, ◌∙◌, rules, arith}
use Rattle.std.proofs.lemmas.Iterator.{first_from_Range}
use Rattle.circuit.specs.Machines.{bit_of}
use Rattle.circuit.specs.Plans.{plan}
use Rattle.simulation.specs.Checks.{lowest}
use Rattle.simulation.proofs.Lawfuls.{lawful}
use Rattle.simulation.proofs.Strays.{lowest_first}
use Rattle.simulation.proofs.rows.stray.Goals as goal

pub returns-clause-value : goal.returns-clause-value
returns-clause-value c =
    let v = c.args.vector in
    let n = c.inputs.result in
    let d = c.args.circuit.now.draft in
    let found = first_from_Range _ _ _ _ (λ i. bit_of v i ≡ true) (λ i. bit_of v i ≡ false) c.find.ensures.ran (λ x q k. search rules) (λ x q k. (search rules, search rules)) in
    lowest_first (64 - n) n v 64 _ (omega (arith, c.inputs.ensures, d.tallied, d.fewer)) found ∙ ap (λ k. lowest (64 - k) k v) c.inputs.ensures

pub returns-clause-law : goal.returns-clause-law
returns-clause-law c =
    let d = c.args.circuit.now.draft in
    lawful (plan c.args.circuit.now) c.args.vector (omega (arith, d.outputs.ok.0, d.slim)) d.fed (omega (arith, d.tallied, d.fewer)) (omega arith)
