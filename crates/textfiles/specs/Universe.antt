-- Every fault of a circuit.
use Rattle.std.specs.Prelude.{ℕ, zero, suc, ◌+◌, true, false, List, [], ◌∷◌, ◌++◌}
use Rattle.circuit.specs.Plans.{Plan}
use Rattle.circuit.specs.Shape.{pin_count}
use Rattle.circuit.specs.declared.faults.Fault.{Fault}
use Rattle.circuit.specs.declared.faults.Site.{Site}
use Rattle.circuit.specs.declared.faults.Site.TheVariants.{Stem, Pin}
use Rattle.circuit.specs.declared.lines.Line.{Line}

-- the two faults of a site: stuck at 0 and stuck at 1
abbrev pub both : Site → List Fault
both s = record { site = s; stuck = false } ∷ record { site = s; stuck = true } ∷ []

-- the faults of k pins of line l's gate, from pin n on
abbrev pub pin_faults : ℕ → ℕ → ℕ → List Fault
pin_faults l n zero = []
pin_faults l n (suc k) = both (Pin l n) ++ pin_faults l (n + 1) k

-- the faults of a line: its stem, then its gate's pins upward
abbrev pub line_faults : ℕ → Line → List Fault
line_faults l x = both (Stem l) ++ pin_faults l 0 (pin_count x)

-- the faults of the lines from line l on
abbrev pub faults_from : ℕ → List Line → List Fault
faults_from l [] = []
faults_from l (x ∷ xs) = line_faults l x ++ faults_from (l + 1) xs

abbrev pub every_fault : Plan → List Fault
every_fault p = faults_from 0 p.lines
