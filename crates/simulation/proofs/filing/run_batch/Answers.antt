use Rattle.std.proofs.Common.{◌≡◌, ℕ, ◌≤◌, ◌++◌, length, take, ap, ◌∙◌, subst, arith}
use Rattle.circuit.specs.Machines.{binary, value_at, word_from, word}
use Rattle.circuit.specs.Plans.{plan}
use Rattle.simulation.specs.Lanes.{machine_at, lane_word, Shows}
use Rattle.simulation.specs.Rows.{live, filed}
use Rattle.simulation.proofs.Entries.{entries_all}
use Rattle.simulation.proofs.filing.run_batch.Goals as goal

pub returns : goal.returns
returns g c =
    let m = g.M.Method in
    let p = plan c.args.circuit.now in
    let v = c.args.vector in
    let xs = c.args.listed.now in
    let n = length p.lines in
    let gathered = c.gather.ensures ∙ ap (λ fs. fs ++ live xs) c.new-batch.ensures in
    let shown : Shows m.lane m.LANES (live xs) v p.lines c.walk.new.work = subst (λ fs. Shows m.lane m.LANES fs v p.lines c.walk.new.work) gathered c.walk.ensures in
    let w = lane_word m.lane (take n c.walk.new.work) p.outputs in
    let same : (l : ℕ) → l ≤ m.LANES → w l ≡ word p (machine_at (live xs) l) v = λ l le. ap (λ vs. word_from (value_at binary vs) p.outputs) (shown l le) in
    let read = ap (λ k. lane_word m.lane (take k c.walk.new.work) p.outputs) c.lines.ensures in
    record {
      good = c.file.ensures.good ∙ ap (λ f. f 0) read ∙ same 0 (omega arith);
      entries = c.file.ensures.entries ∙ ap (λ f. filed f 0 xs) read ∙ entries_all p v w m.LANES xs c.requires.lanes same;
      shows = shown;
    }
