use Rattle.std.proofs.Common.{sym, ◌∙◌, arith}
use Rattle.std.proofs.lemmas.Bool.{eqb-false}
use Rattle.circuit.proofs.Wholes.{sound_of}
use Rattle.circuit.proofs.whole.Circuit.is_empty.Goals as goal

pub returns-clause-sound : goal.returns-clause-sound
returns-clause-sound c f = let some = eqb-false _ _ (sym c.is_empty.ensures ∙ f) in sound_of c.args.self.now (omega arith)
