-- A circuit that was loaded.
use Rattle.std.specs.Prelude.{ℕ, List}
use Rattle.circuit.specs.Plans.{Plan}
use Rattle.netlist.specs.Grammar.{Accepted}

-- a text is accepted as the circuit
pub record Loaded (p : Plan) : Type 0 where
  pub text : List ℕ
  pub accepted : Accepted text p
