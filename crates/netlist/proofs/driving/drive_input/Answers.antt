use Rattle.std.proofs.Common.{[], ◌∷◌, vec_items, arith, rules}
use Rattle.circuit.specs.declared.lines.Line.TheVariants.{Input}
use Rattle.netlist.proofs.Pushed.{inputs_append}
use Rattle.netlist.proofs.driving.drive_input.Goals as goal

pub push_line-requires-clause-inputs : goal.push_line-requires-clause-inputs
push_line-requires-clause-inputs c =
    let d = c.args.draft.now in
    (omega (arith, inputs_append (vec_items d.lines) (Input d.inputs ∷ []), d.tallied), search rules)
