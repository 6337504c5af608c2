use Rattle.std.proofs.Common.{not, length, ◌∙◌, ap, arith}
use Rattle.std.proofs.lemmas.Bool.{eq-eqb}
use Rattle.circuit.specs.Machines.{effect}
use Rattle.circuit.specs.Shape.{gate_of}
use Rattle.circuit.specs.declared.faults.Site.TheVariants.{Pin}
use Rattle.simulation.specs.Lanes.{machine_at}
use Rattle.simulation.specs.Members.{members}
use Rattle.simulation.proofs.Holding.{none_held}
use Rattle.simulation.proofs.Pads.{pin_fed, pin_there}
use Rattle.simulation.proofs.walking.Here.pin.Goals as goal

pub bounds-before-line : goal.bounds-before-line
bounds-before-line g c =
    let here = c.in-Some.ensures.lookup.3 in
    pin_fed (length c.args.self.now.before.now) c.args.p c.in-Some.line.now (gate_of c.args.kind c.args.pins.now) c.args.self.now.line.now c.requires.gate c.args.self.now.fed here.0 (here.1 0)

pub offset_bounds-before-line : goal.offset_bounds-before-line
offset_bounds-before-line g c =
    let here = c.in-Some.ensures.lookup.3 in
    omega (arith, pin_fed (length c.args.self.now.before.now) c.args.p c.in-Some.line.now (gate_of c.args.kind c.args.pins.now) c.args.self.now.line.now c.requires.gate c.args.self.now.fed here.0 (here.1 0))

pub returns-then-this-ne0 : goal.returns-then-this-ne0
returns-then-this-ne0 g c l le =
    let b = c.args.self.now.batch.now in
    let before = c.args.self.now.before.now in
    let here = c.in-Some.ensures.lookup.3 in
    let low = pin_fed (length before) c.args.p c.in-Some.line.now (gate_of c.args.kind c.args.pins.now) c.args.self.now.line.now c.requires.gate c.args.self.now.fed here.0 (here.1 0) in
    c.hold.ensures l le
    ∙ pin_there (effect (machine_at (members b) l)) g.M.Method.lane before l (length before) c.args.p (gate_of c.args.kind c.args.pins.now) here.0 c.in-Some.line.now c.index-before-line.result (here.1 0) low c.index-before-line.is

pub returns-else-this-ne0 : goal.returns-else-this-ne0
returns-else-this-ne0 g c l le =
    let b = c.args.self.now.batch.now in
    let before = c.args.self.now.before.now in
    let here = c.in-Some.ensures.lookup.3 in
    let low = pin_fed (length before) c.args.p c.in-Some.line.now (gate_of c.args.kind c.args.pins.now) c.args.self.now.line.now c.requires.gate c.args.self.now.fed here.0 (here.1 0) in
    none_held (members b) (Pin (length before) c.args.p) (c.requires.spared (ap not (eq-eqb _ 0 c.if-this-ne0.false))) l _
    ∙ pin_there (effect (machine_at (members b) l)) g.M.Method.lane before l (length before) c.args.p (gate_of c.args.kind c.args.pins.now) here.0 c.in-Some.line.now c.index-before-line.result (here.1 0) low c.index-before-line.is
