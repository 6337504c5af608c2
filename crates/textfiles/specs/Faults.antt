-- The faults of a text.
use Rattle.std.specs.Prelude.{ℕ, ◌+◌, ◌-◌, Bool, true, false, cond, not, ◌&&◌, List, [], ◌∷◌, length, take, Some, None, Ok, Err, Option, Result, ◌==◌}
use Rattle.std.specs.Option.{ok_or}
use Rattle.std.specs.Char.{is_ascii_digit}
use Rattle.std.specs.List.{slice_get}
use Rattle.circuit.specs.Names.{find}
use Rattle.circuit.specs.Plans.{Plan, has_site}
use Rattle.circuit.specs.Shape.{pins_of}
use Rattle.circuit.specs.declared.faults.Fault.{Fault}
use Rattle.circuit.specs.declared.faults.Site.{Site}
use Rattle.circuit.specs.declared.faults.Site.TheVariants.{Stem, Pin}
use Rattle.circuit.specs.declared.lines.Line.{Line}
use Rattle.textfiles.specs.Cursors.{Spot, byte, run, skip, past, flaw}
use Rattle.texts.specs.Steps.{bind, unless}
use Rattle.textfiles.specs.Items.{items_of, each}
use Rattle.textfiles.specs.declared.cursors.Class.TheVariants.{Name, Space}
use Rattle.textfiles.specs.declared.flaws.Flaw.{Flaw}
use Rattle.textfiles.specs.declared.flaws.What.{What}
use Rattle.textfiles.specs.declared.flaws.What.TheVariants.{NoName, UnknownName, NoSign, NoSlash, NoPin, NotFed, FedTwice, NoValue, Trailing}

-- the name in front
abbrev pub name_at : Spot → List ℕ
name_at s = take (run Name s.rest) s.rest

-- the line of the name in front
abbrev pub line_at : Plan → Spot → Result ℕ Flaw
line_at p s = unless (length (name_at s) == 0) (flaw s NoName) (ok_or (find p.names (name_at s)) (flaw s UnknownName))

-- the pin of line l's gate that the digit in front gives
abbrev pub pin_at : Plan → ℕ → Spot → Result ℕ Flaw
pin_at p l s = unless (not (is_ascii_digit (byte s))) (flaw s NoPin) (unless (not (has_site p (Pin l (byte s - 48)))) (flaw s NoPin) (Ok (byte s - 48)))

-- the places at which l stands, where the first has place i
abbrev pub places_from : ℕ → ℕ → List ℕ → List ℕ
places_from l i [] = []
places_from l i (q ∷ qs) = cond (q == l) (i ∷ places_from l (i + 1) qs) (places_from l (i + 1) qs)

-- the one pin, or a flaw at s
abbrev pub only : Spot → List ℕ → Result ℕ Flaw
only s [] = Err (flaw s NotFed)
only s (i ∷ []) = Ok i
only s (i ∷ j ∷ is) = Err (flaw s FedTwice)

-- the lines that feed the pins of a line's gate
abbrev pub feeders : Option Line → List ℕ
feeders None = []
feeders (Some l) = pins_of l

-- the pin of line m's gate that line l feeds
abbrev pub fed_pin : Plan → Spot → ℕ → ℕ → Result ℕ Flaw
fed_pin p s l m = only s (places_from l 0 (feeders (slice_get p.lines m)))

abbrev pub bit_at : Spot → Result Bool Flaw
bit_at s = cond (byte s == 48) (Ok false) (cond (byte s == 49) (Ok true) (Err (flaw s NoValue)))

-- a slash, the value and nothing more; without the slash the flaw is w
abbrev pub slash_at : What → Spot → Result Bool Flaw
slash_at w s =
    unless (not (byte s == 47)) (flaw s w) (
    bind (bit_at (skip 1 s)) (λ v.
    unless (not (length (skip 1 (skip 1 s)).rest == 0)) (flaw (skip 1 (skip 1 s)) Trailing) (
    Ok v)))

-- the same after spaces
abbrev pub value_at : What → Spot → Result Bool Flaw
value_at w s = slash_at w (past Space s)

abbrev pub stuck_at : Site → Result Bool Flaw → Result Fault Flaw
stuck_at site r = bind r (λ v. Ok (record { site = site; stuck = v }))

-- what stands after the first name, which is line l's and begins at s
abbrev pub site_after : Plan → Spot → ℕ → Spot → Result Fault Flaw
site_after p s l t =
    cond (byte t == 46)
    (bind (pin_at p l (skip 1 t)) (λ n. stuck_at (Pin l n) (value_at NoSlash (skip 2 t))))
    (cond (byte t == 45 && byte (skip 1 t) == 62)
    (bind (line_at p (skip 2 t)) (λ m. bind (fed_pin p s l m) (λ n. stuck_at (Pin m n) (value_at NoSlash (past Name (skip 2 t))))))
    (stuck_at (Stem l) (value_at NoSign t)))

abbrev pub fault_of : Plan → Spot → Result Fault Flaw
fault_of p s = bind (line_at p s) (λ l. site_after p s l (past Name s))

abbrev pub faults_of : List ℕ → Plan → Result (List Fault) Flaw
faults_of text p = each (fault_of p) [] (items_of text)
