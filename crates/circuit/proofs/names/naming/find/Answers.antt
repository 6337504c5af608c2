use Rattle.std.proofs.Common.{◌≡◌, rules}
use Rattle.std.proofs.lemmas.Iterator.{YieldsList-from_slice, IsFirst-from_position}
use borrow.Author.Tests.{tests}
use Rattle.circuit.specs.Spelled.{bytes_of}
use Rattle.circuit.proofs.Found.{find_from_first}
use Rattle.circuit.proofs.names.naming.find.Goals as goal

pub returns-clause-value : goal.returns-clause-value
returns-clause-value c =
    let w = c.args.word.now in
    find_from_first bytes_of w c.args.names.now _
    (IsFirst-from_position _ _ _ (λ n. bytes_of n ≡ w) (λ n. bytes_of n ≡ w → ⊥) c.position.ensures.ran (YieldsList-from_slice c.args.names.now cc) (λ x q k. search (rules, tests)) (λ x q k. search (rules, tests)))
