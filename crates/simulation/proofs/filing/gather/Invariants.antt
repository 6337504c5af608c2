use Rattle.std.proofs.Common.{◌≡◌, ◌++◌, drop}
use Rattle.simulation.specs.Members.{members}
use Rattle.simulation.specs.Rows.{live}
use Rattle.simulation.proofs.filing.gather.Given as goal

abbrev pub invariant-loop-one : goal.invariant-loop-one
invariant-loop-one l = members l.batch ++ live (drop l.one-index l.listed) ≡ members l.fn.batch ++ live l.listed
