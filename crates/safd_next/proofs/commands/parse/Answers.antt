use Rattle.std.proofs.Common.{arith}
use Rattle.std.proofs.lemmas.Grind.{common_steps}
use Rattle.console.proofs.Texts.{differs}
use Rattle.safd_next.proofs.commands.parse.Goals as goal

pub returns-in_default-as_str : goal.returns-in_default-as_str
returns-in_default-as_str c = grind (arith, common_steps, differs _ _ c.in_default-as_str.not-help, differs _ _ c.in_default-as_str.not-tour)

pub returns-in_default-as_str-2 : goal.returns-in_default-as_str-2
returns-in_default-as_str-2 c = grind (arith, common_steps, differs _ _ c.in_default-as_str-2.not-check, differs _ _ c.in_default-as_str-2.not-faults, differs _ _ c.in_default-as_str-2.not-bench)

pub returns-in_default-as_str-3 : goal.returns-in_default-as_str-3
returns-in_default-as_str-3 c = grind (arith, common_steps, differs _ _ c.in_default-as_str-3.not-simulate)

pub returns-in_default-as_str-4 : goal.returns-in_default-as_str-4
returns-in_default-as_str-4 c = grind (arith, common_steps, differs _ _ c.in_default-as_str-4.not-simulate, differs _ _ c.in_default-as_str-4.not-bench)
