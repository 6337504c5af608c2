use Rattle.std.proofs.Common.{◌≡◌, ◌<◌, ◌≤◌, length, get_or, take, sym, ap, ◌∙◌, arith}
use Rattle.std.proofs.lemmas.List.{at_drop_all, take_more_set, map_push, length-map, get_or_default}
use Rattle.circuit.specs.Machines.{effect, binary, bit_of, value_at, stem_value, values_from}
use Rattle.circuit.specs.Plans.{plan}
use Rattle.circuit.specs.Shape.{blank}
use Rattle.simulation.specs.Lanes.{machine_at, seen}
use Rattle.simulation.specs.Members.{members}
use Rattle.simulation.proofs.Walks.{values_step}
use Rattle.simulation.proofs.walking.walk.Goals as goal

pub loop-i-preserved : goal.loop-i-preserved
loop-i-preserved g c =
    let m = g.M.Method in
    let i = c.loop-i.i in
    let work = c.loop-i.work in
    let value = c.stem.result in
    let ls = c.as_slice-line-items.result.now in
    let same = c.as_slice-line-items.ensures.value in
    let lt : c.loop-i.i < length (plan c.args.circuit.now).lines = omega (arith, ap length same, c.loop-i-test.true) in
    let room : c.loop-i.i < length c.loop-i.work = omega (arith, c.requires) in
    λ k le.
    let e = effect (machine_at (members c.args.batch.now) k) in
    let vs = seen m.lane (take i work) k in
    values_step binary e (bit_of c.args.vector) vs _ (plan c.args.circuit.now).lines i (m.lane value k) lt
    (c.stem.ensures k le ∙ ap (λ x. stem_value binary e (bit_of c.args.vector) (value_at binary vs) (length (take i work)) x) (c.line-item.is ∙ get_or_default ls i _ blank (omega (arith, c.loop-i-test.true)))
    ∙ ap (λ n. stem_value binary e (bit_of c.args.vector) (value_at binary vs) n (get_or ls i blank)) (sym (length-map (take i work) (λ x. m.lane x k)))
    ∙ ap (λ xs. stem_value binary e (bit_of c.args.vector) (value_at binary vs) (length vs) (get_or xs i blank)) same)
    (ap (λ xs. seen m.lane xs k) (take_more_set work i value room) ∙ map_push (λ x. m.lane x k) (take i work) value)
    ∙ c.loop-i.invariant k le

pub returns : goal.returns
returns g c =
    let m = g.M.Method in
    let past : length (plan c.args.circuit.now).lines ≤ c.loop-i.i = omega (arith, ap length c.as_slice-line-items.ensures.value, c.loop-i-test.false) in
    let end : c.loop-i.i ≡ length (plan c.args.circuit.now).lines = omega (arith, past, ap length c.as_slice-line-items.ensures.value) in
    λ l le.
    let e = effect (machine_at (members c.args.batch.now) l) in
    ap (λ n. seen m.lane (take n c.loop-i.work) l) (sym end)
    ∙ sym (at_drop_all (values_from binary e (bit_of c.args.vector) (seen m.lane (take c.loop-i.i c.loop-i.work) l)) (plan c.args.circuit.now).lines c.loop-i.i past)
    ∙ c.loop-i.invariant l le
