use Rattle.std.proofs.Common.{rules}
use Rattle.texts.proofs.LineTurns.{lines_short}
use Rattle.netlist.proofs.reading.read_lines.Goals as goal

pub loop-i-init : goal.loop-i-init
loop-i-init g c =
    let e = c.into_iter-i-iterator.ensures.into_iter_gives in
    let s = c.enumerate-i-items.ensures.source in
    let n = c.enumerate-i-items.ensures.count in
    (search rules, search rules, search rules, rw (e, s, c.new.ensures) (lines_short 65536 0 c.args.text.now c.requires))
