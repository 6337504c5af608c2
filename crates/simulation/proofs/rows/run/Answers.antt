use Rattle.std.proofs.Common.{◌+◌, ◌<◌, ◌≤◌, length, sym, refl, ap, ◌∙◌, subst, arith}
use Rattle.circuit.specs.Plans.{plan}
use Rattle.simulation.specs.Lanes.{Shows}
use Rattle.simulation.specs.Rows.{live, entry}
use Rattle.simulation.proofs.Runs.{front_here, part_is, part_length, begins_first, part_within, part_few, begins_next, last_here, filled_more, rest_more, filled_all}
use Rattle.simulation.proofs.rows.run.Goals as goal

pub loop-vector-init : goal.loop-vector-init
loop-vector-init g c = (begins_first g.M.Method.LANES c.args.listed.now g.met.M.Method.least, refl, refl)

pub overflow_add-end : goal.overflow_add-end
overflow_add-end g c =
    let long = front_here g.M.Method.LANES _ c.args.listed.now c.loop-vector.start _ c.LANES.ensures c.batch_len.ensures in
    let within = part_within g.M.Method.LANES c.args.listed.now c.loop-vector.start _ g.met.M.Method.least c.loop-vector.invariant.0 long in
    omega (arith, within, c.requires.room)

pub slice_bounds-run_batch-end : goal.slice_bounds-run_batch-end
slice_bounds-run_batch-end g c =
    let long = front_here g.M.Method.LANES _ c.args.listed.now c.loop-vector.start _ c.LANES.ensures c.batch_len.ensures in
    part_within g.M.Method.LANES c.args.listed.now c.loop-vector.start _ g.met.M.Method.least c.loop-vector.invariant.0 long

pub run_batch-good-requires : goal.run_batch-good-requires
run_batch-good-requires g c =
    let k = g.M.Method.LANES in
    let xs = c.args.listed.now in
    let s = c.loop-vector.start in
    let r = c.batch_len.result in
    let long = front_here k _ xs s r c.LANES.ensures c.batch_len.ensures in
    let within = part_within k xs s r g.met.M.Method.least c.loop-vector.invariant.0 long in
    record {
      lanes = subst (λ ys. length (live ys) ≤ g.M.Method.LANES) (sym (part_is xs s r)) (part_few k xs s r g.met.M.Method.least c.loop-vector.invariant.0 long);
      work = omega (arith, c.requires.work);
      row = omega (arith, part_length xs s r within, within, c.requires.room);
    }

pub returns-then-end-listed : goal.returns-then-end-listed
returns-then-end-listed g c =
    let m = g.M.Method in
    let k = m.LANES in
    let xs = c.args.listed.now in
    let s = c.loop-vector.start in
    let r = c.batch_len.result in
    let b = c.loop-vector.invariant.0 in
    let pos = g.met.M.Method.least in
    let long = front_here k _ xs s r c.LANES.ensures c.batch_len.ensures in
    let within = part_within k xs s r pos b long in
    let F = entry (plan c.args.circuit.now) c.args.vector in
    let new = c.run_batch-good.ensures in
    record {
      good = new.good;
      entries = filled_all F xs s r within c.loop-vector.row _ (omega (arith, c.requires.room)) new.entries c.args.row.now c.if-end-listed.true c.loop-vector.invariant.1 c.loop-vector.invariant.2;
      shows = subst (λ fs. Shows m.lane m.LANES fs c.args.vector (plan c.args.circuit.now).lines c.run_batch-good.new.work) (ap live (part_is xs s r) ∙ last_here k xs s r pos b long c.if-end-listed.true) new.shows;
    }

pub loop-vector-smaller : goal.loop-vector-smaller
loop-vector-smaller g c =
    let k = g.M.Method.LANES in
    let xs = c.args.listed.now in
    let s = c.loop-vector.start in
    let r = c.batch_len.result in
    let b = c.loop-vector.invariant.0 in
    let pos = g.met.M.Method.least in
    let long = front_here k _ xs s r c.LANES.ensures c.batch_len.ensures in
    let within = part_within k xs s r pos b long in
    let left : c.loop-vector.start + c.batch_len.result < length c.args.listed.now = omega (arith, within, c.if-end-listed.false) in
    omega (arith, (begins_next k xs s r pos b long left).0, left)

pub loop-vector-preserved : goal.loop-vector-preserved
loop-vector-preserved g c =
    let k = g.M.Method.LANES in
    let xs = c.args.listed.now in
    let s = c.loop-vector.start in
    let r = c.batch_len.result in
    let b = c.loop-vector.invariant.0 in
    let pos = g.met.M.Method.least in
    let long = front_here k _ xs s r c.LANES.ensures c.batch_len.ensures in
    let within = part_within k xs s r pos b long in
    let left : c.loop-vector.start + c.batch_len.result < length c.args.listed.now = omega (arith, within, c.if-end-listed.false) in
    let F = entry (plan c.args.circuit.now) c.args.vector in
    let new = c.run_batch-good.ensures in (
      (begins_next k xs s r pos b long left).1,
      filled_more F xs s r within c.loop-vector.row _ (omega (arith, c.requires.room)) new.entries c.loop-vector.invariant.1,
      rest_more F xs s r within c.loop-vector.row _ (omega (arith, c.requires.room)) new.entries c.args.row.now c.loop-vector.invariant.2,
    )
