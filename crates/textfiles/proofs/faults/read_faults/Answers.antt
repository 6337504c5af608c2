use Rattle.std.proofs.Common.{vec_items, rules}
use Rattle.circuit.specs.Plans.{plan}
use Rattle.textfiles.specs.Faults.{faults_of}
use Rattle.textfiles.specs.Flaws.{Answers}
use Rattle.textfiles.specs.Items.{items_of}
use Rattle.textfiles.proofs.Denoted.{faults_accepted}
use Rattle.textfiles.proofs.faults.read_faults.Goals as goal

pub returns-clause-law : goal.returns-clause-law
returns-clause-law c =
    let p = plan c.args.circuit.now in
    let text = c.args.text.now in
    let value : Answers vec_items c.read_all.result (faults_of text p) = search rules in
    faults_accepted p vec_items (items_of text) c.read_all.result value
