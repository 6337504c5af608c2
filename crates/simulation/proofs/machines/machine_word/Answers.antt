use Rattle.std.proofs.Common.{◌≡◌, ◌∷◌, ◌++◌, [], map, length, drop, None, Ok, ap, ◌∙◌, subst, rules}
use Rattle.circuit.specs.Machines.{word}
use Rattle.circuit.specs.Plans.{plan}
use Rattle.simulation.specs.Checks.{checks, answered, after}
use Rattle.simulation.specs.Lanes.{Shows}
use Rattle.simulation.specs.Rows.{entry, live, last_batch}
use Rattle.simulation.proofs.Answered.{alone, alone_is, alone_word, live_alone}
use Rattle.simulation.proofs.machines.machine_word.Given as given
use Rattle.simulation.proofs.machines.machine_word.Goals as goal
use Rattle.simulation.proofs.machines.machine_word.Goals.{In_ok-good}

-- the list simulated is the machine's fault alone
listed : (g : given.Over) (c : In_ok-good g) → c.as_slice.result.now ≡ alone c.args.machine
listed g c = alone_is c.args.machine c.map-listed.result c.as_slice.result.now (λ f x q. search rules) c.map-listed.ensures.cases c.as_slice.ensures

pub returns-clause-value : goal.returns-clause-value
returns-clause-value g c =
    let p = plan c.args.circuit.now in
    let v = c.args.vector in
    let n = length c.args.work.now in
    let told = c.in_ok-good.ensures in
    alone_word p v n c.in_ok-good.good c.simulate.new.row c.args.machine
    (subst (λ xs. Ok c.in_ok-good.good ≡ answered (checks p (length xs) v n 1) (word p None v)) (listed g c) told.value)
    (subst (λ xs. c.simulate.new.row ≡ after (checks p (length xs) v n 1) (map (entry p v) xs ++ drop (length xs) (0 ∷ [])) (0 ∷ [])) (listed g c) told.entries)

pub returns-clause-shows : goal.returns-clause-shows
returns-clause-shows g c =
    let m = g.M.Method in
    subst (λ fs. Shows m.lane m.LANES (last_batch m.LANES fs) c.args.vector (plan c.args.circuit.now).lines c.simulate.new.work) (ap live (listed g c) ∙ live_alone c.args.machine) c.in_ok-good.ensures.shows
