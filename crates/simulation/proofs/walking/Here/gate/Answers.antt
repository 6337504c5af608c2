use Rattle.std.proofs.Common.{[], ◌∷◌, length, sym, ap, ◌∙◌, arith}
use Rattle.circuit.specs.Gates.{gate_on}
use Rattle.circuit.specs.Machines.{effect, binary, value_at, pins_seen}
use Rattle.circuit.specs.Shape.{gate_of, pins_of}
use Rattle.simulation.specs.Lanes.{machine_at, seen}
use Rattle.simulation.specs.Members.{members}
use Rattle.simulation.proofs.Pads.{four_pins}
use Rattle.simulation.proofs.walking.Here.gate.Goals as goal

pub returns : goal.returns
returns g c l le =
    let e = effect (machine_at (members c.args.self.now.batch.now) l) in
    let value = value_at binary (seen g.M.Method.lane c.args.self.now.before.now l) in
    let i = length c.args.self.now.before.now in
    let same = c.as_slice-pins.ensures.value in
    c.gate.ensures l le
    ∙ (λ t. gate_on c.args.gate.now.kind (c.pin-a.ensures l le t ∷ c.pin-b.ensures l le t ∷ c.pin-c.ensures l le t ∷ c.pin-d.ensures l le t ∷ []))
    ∙ four_pins e value i (gate_of c.args.gate.now.kind c.as_slice-pins.result.now) (omega (arith, ap length same, c.as_slice-pins.ensures.few))
    ∙ ap (λ ps. gate_on c.args.gate.now.kind (pins_seen e value i 0 ps)) same
    ∙ ap (λ x. gate_on c.args.gate.now.kind (pins_seen e value i 0 (pins_of x))) (sym c.requires.gate)
