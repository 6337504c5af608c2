use Rattle.std.proofs.Common.{length, sym, ap, ◌∙◌, arith}
use Rattle.simulation.specs.Lanes.{left}
use Rattle.simulation.specs.Members.{members}
use Rattle.simulation.proofs.Chains.{latest_found, left_latest}
use Rattle.simulation.proofs.batches.Batch.at.Goals as goal

pub invariant_of-result : goal.invariant_of-result
invariant_of-result c =
    let b = c.args.self.now in
    let g = c.args.line in
    record {
      within = λ i e.
          let found = latest_found (members b) g (length (members b)) i (sym (b.tops g c.requires) ∙ e) in
          (found.0, omega (arith, found.1, c.requires));
    }

pub returns : goal.returns
returns c =
    let b = c.args.self.now in
    let g = c.args.line in
    ap (left (members b)) (b.tops g c.requires) ∙ left_latest (members b) g (length (members b))
