use Rattle.std.proofs.Common.{◌+◌, ◌≤◌, length, rules, arith, zero-le}
use Rattle.std.proofs.lemmas.Grind.{common_steps}
use Rattle.std.proofs.iter.runs.Made.{chains}
use Rattle.textfiles.proofs.Blanks.{shut_is}
use Rattle.textfiles.proofs.cursors.shut_len.Goals as goal

pub returns-in-Some-clause-value : goal.returns-in-Some-clause-value
returns-in-Some-clause-value c =
    let s = c.args.s.now in
    let n = c.in-Some.last + 1 in
    let within : n ≤ length s = search rules in
    shut_is s n within (λ k h b. grind (arith, common_steps, chains)) (λ h. search (rules, chains))

pub returns-in-None-clause-value : goal.returns-in-None-clause-value
returns-in-None-clause-value c =
    shut_is c.args.s.now 0 zero-le (λ k h b. search (rules, chains)) (λ h. absurd (omega arith))
