use Rattle.std.proofs.Common.{Ok, Err, sym, ap, ◌∙◌}
use Rattle.circuit.specs.Plans.{plan_of}
use Rattle.netlist.specs.Reading.{filling}
use Rattle.netlist.proofs.TextPlaces.{place_law}
use Rattle.netlist.proofs.TextLaw.{lawful}
use Rattle.netlist.proofs.reading.read.Goals as goal

pub returns-in-Ok-clause-law : goal.returns-in-Ok-clause-law
returns-in-Ok-clause-law c = lawful c.args.text.now (Ok tt) (plan_of c.fill.new.draft) (c.in-Ok.ensures ∙ ap (λ p. filling p c.args.text.now) c.clear.ensures)

pub returns-in-Err-clause-placed : goal.returns-in-Err-clause-placed
returns-in-Err-clause-placed c = place_law c.args.text.now c.in-Err.refusal (sym (c.in-Err.ensures ∙ ap (λ p. filling p c.args.text.now) c.clear.ensures))

pub returns-in-Err-clause-law : goal.returns-in-Err-clause-law
returns-in-Err-clause-law c = lawful c.args.text.now (Err c.in-Err.refusal) (plan_of c.clear-in-Err.new.self) (c.in-Err.ensures ∙ ap (λ p. filling p c.args.text.now) c.clear.ensures)
