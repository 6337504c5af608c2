use Rattle.std.proofs.Common.{length, ap, ◌∙◌}
use Rattle.std.proofs.lemmas.List.{take_at, drop_at, drop-replicate}
use Rattle.circuit.proofs.few.Few.of.Goals as goal

pub returns : goal.returns
returns g c =
    let copied = c.copy_from_slice.ensures.after in (
      take_at _ _ _ (ap length copied) ∙ copied,
      drop_at _ _ _ (ap length copied) ∙ drop-replicate (length c.args.items.now) g.row.N c.args.fill,
    )
