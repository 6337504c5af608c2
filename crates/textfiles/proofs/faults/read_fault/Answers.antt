use Rattle.std.proofs.Common.{◌≡◌, ap, ◌∙◌}
use Rattle.circuit.specs.Plans.{plan}
use Rattle.textfiles.specs.Cursors.{item}
use Rattle.textfiles.specs.Faults.{fault_of}
use Rattle.textfiles.proofs.Denoted.{faithful}
use Rattle.textfiles.proofs.faults.read_fault.Goals as goal

pub returns-clause-law : goal.returns-clause-law
returns-clause-law c =
    let p = plan c.args.circuit.now in
    let s = item 1 c.args.word.now in
    let same : c.read_item.result ≡ fault_of p s = c.read_item.ensures ∙ ap (fault_of p) c.item.ensures in
    faithful p s c.read_item.result same
