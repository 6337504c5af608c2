use Rattle.std.proofs.Common.{vec_items, rules}
use Rattle.textfiles.specs.Flaws.{Answers}
use Rattle.textfiles.specs.Items.{items_of}
use Rattle.textfiles.specs.Vectors.{vectors_of}
use Rattle.textfiles.proofs.VectorLaw.{vectors_accepted}
use Rattle.textfiles.proofs.vectors.read_vectors.Goals as goal

pub returns-clause-law : goal.returns-clause-law
returns-clause-law c =
    let n = c.args.inputs in
    let text = c.args.text.now in
    let value : Answers vec_items c.read_all.result (vectors_of text n) = search rules in
    vectors_accepted n vec_items (items_of text) c.read_all.result value
