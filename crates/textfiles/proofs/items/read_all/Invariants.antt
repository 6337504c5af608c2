use Rattle.std.proofs.Common.{◌≡◌, [], vec_items}
use Rattle.std.specs.Iterator.Adapters.{enumerate_source, enumerate_count}
use Rattle.texts.specs.Lines.{lines_left}
use Rattle.textfiles.specs.Items.{items_after, items_of, each, Means}
use Rattle.textfiles.proofs.items.read_all.Given as goal

abbrev pub invariant-loop-i : goal.invariant-loop-i
invariant-loop-i g l =
    (goal.iterator-loop-i g).can_next l.i-iterator
    × (goal.iterator-loop-i g).is_finite l.i-iterator
    × ((m : _) → Means (goal.F-post g l.read) m → each m (vec_items l.meant) (items_after (enumerate_count l.i-iterator) (lines_left (enumerate_source l.i-iterator))) ≡ each m [] (items_of l.text))
