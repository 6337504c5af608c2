use Rattle.std.proofs.Common.{Err, ap, ◌∙◌}
use Rattle.std.specs.Result.{result_or}
use Rattle.circuit.specs.declared.refusals.Refusal.TheVariants.{NoKind}
use Rattle.netlist.proofs.Risen.{other_error}
use Rattle.netlist.proofs.statements.want_kind.Goals as goal

pub returns : goal.returns
returns c = c.or.ensures ∙ ap (λ r. result_or r (Err (NoKind c.args.word.place))) c.try_from.ensures ∙ other_error _ _ _
