-- A circuit without its memory, and what every circuit is.
use Rattle.std.specs.Prelude.{◌≡◌, ℕ, ◌≤◌, Bool, List, [], map, length, Some, None, vec_items, Option, nat_lt}
use Rattle.std.specs.List.{slice_get}
use Rattle.circuit.specs.Shape.{pin_count, inputs_in, Counted, Fed, Numbered, Brief, Distinct, Shown}
use Rattle.circuit.specs.Spelled.{bytes_of}
use Rattle.circuit.specs.declared.lines.Line.{Line}
use Rattle.circuit.specs.declared.faults.Site.{Site}
use Rattle.circuit.specs.declared.faults.Site.TheVariants.{Stem, Pin}
use Rattle.circuit.specs.declared.drafts.Draft.{Draft}
use Rattle.circuit.specs.declared.whole.Circuit.{Circuit}

pub record Plan : Type 0 where
  pub lines : List Line
  pub names : List (List ℕ)
  pub outputs : List ℕ

abbrev pub plan_of : Draft → Plan
plan_of d = record { lines = vec_items d.lines; names = map bytes_of (vec_items d.names); outputs = vec_items d.outputs }

abbrev pub plan : Circuit → Plan
plan c = plan_of c.draft

abbrev pub empty : Plan
empty = record { lines = []; names = []; outputs = [] }

-- the line of a site: the stem's own, or that the pin's gate drives
abbrev pub line_of : Site → ℕ
line_of (Stem l) = l
line_of (Pin l n) = l

-- how many pins the gate that drives a line has
abbrev pub pins_at : Option Line → ℕ
pins_at None = 0
pins_at (Some l) = pin_count l

-- the circuit has the line, or the line's gate the pin
abbrev pub has_site : Plan → Site → Bool
has_site p (Stem l) = nat_lt l (length p.lines)
has_site p (Pin l n) = nat_lt n (pins_at (slice_get p.lines l))

-- a circuit: what holds of every one that exists and is not empty
pub record Sound (p : Plan) : Type 0 where
  pub few_lines : length p.lines ≤ 1024
  pub some_input : 1 ≤ inputs_in p.lines
  pub few_inputs : inputs_in p.lines ≤ 64
  pub some_output : 1 ≤ length p.outputs
  pub few_outputs : length p.outputs ≤ 63
  pub counted : Counted p.lines
  pub fed : Fed p.lines
  pub numbered : Numbered p.lines
  pub shown : Shown p.outputs (length p.lines)
  pub named : length p.names ≡ length p.lines
  pub short : Brief p.names
  pub distinct : Distinct p.names
