-- A statement without its places, and the law of one line.
use Rattle.std.proofs.Common.{◌≡◌, ℕ, true, List, [], ◌∷◌, map, length, Ok}
use Rattle.std.specs.List.{AllByRecursion}
use Rattle.circuit.specs.Gates.{fits}
use Rattle.circuit.specs.Plans.{empty}
use Rattle.netlist.specs.Tokens.{line_tokens}
use Rattle.netlist.specs.Statements as stmt
use Rattle.netlist.specs.Statements.{Stmt, Named, statement_of}
use Rattle.netlist.specs.Driving.{State, state}
use Rattle.netlist.specs.Grammar.{Said, input, output, gate, Holds}

abbrev pub bytes_at : Named → List ℕ
bytes_at n = n.bytes

-- a statement without its places
abbrev pub said_of : Stmt → List Said
said_of stmt.blank = []
said_of (stmt.input n) = input n.bytes ∷ []
said_of (stmt.output n) = output n.bytes ∷ []
said_of (stmt.gate n k ns) = gate n.bytes k (map bytes_at ns) ∷ []

-- the number of pins fits the kind
abbrev pub Fitting : Said → Type 0
Fitting (input n) = Unit {0}
Fitting (output n) = Unit {0}
Fitting (gate n k ns) = fits k (length ns) ≡ true

-- a line is read as a statement exactly where it holds that statement
pub record LineLaw : Type 0 where
  pub reads : (l : ℕ) (bs : List ℕ) (ss : List Said) → AllByRecursion Fitting ss → Holds bs ss → (st : Stmt) × (statement_of (line_tokens l bs) ≡ Ok st) × (said_of st ≡ ss)
  pub holds : (l : ℕ) (bs : List ℕ) (st : Stmt) → statement_of (line_tokens l bs) ≡ Ok st → Holds bs (said_of st) × AllByRecursion Fitting (said_of st)

-- nothing told yet
abbrev pub start : State
start = state empty 0
