use Rattle.std.proofs.Common.{None, length, sym, ap, ◌∙◌, arith}
use Rattle.std.proofs.lemmas.List.{get_or-replicate}
use Rattle.simulation.specs.Lanes.{latest}
use Rattle.simulation.proofs.batches.Batch.new.Goals as goal

pub invariant_of-result : goal.invariant_of-result
invariant_of-result c = record {
  tops = λ g lt. get_or-replicate 1024 g None None lt ∙ ap (λ fs. latest fs g (length fs)) (sym c.new.ensures.items);
  nexts = λ i lt. absurd (omega (arith, ap length c.new.ensures.items));
}
