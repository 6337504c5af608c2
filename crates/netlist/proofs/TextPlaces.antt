-- A refusal of something in a text has its place in the text.
use Rattle.std.proofs.Common.{◌≡◌, ℕ, suc, ◌+◌, ◌-◌, ◌<◌, ◌≤◌, true, eqb, ltb, List, [], ◌∷◌, length, get_or, Err, Result, refl, subst, arith}
use Rattle.std.specs.List.{AllByRecursion}
use Rattle.std.proofs.lemmas.Bool.{both_ways}
use Rattle.circuit.specs.Names.{find}
use Rattle.circuit.specs.Plans.{Plan, empty}
use Rattle.circuit.specs.Refusals.{place_of}
use Rattle.circuit.specs.Shape.{inputs_in}
use Rattle.circuit.specs.declared.kinds.Kind.{Kind}
use Rattle.circuit.specs.declared.refusals.Place.{Place}
use Rattle.circuit.specs.declared.refusals.Refusal.{Refusal}
use Rattle.circuit.specs.declared.refusals.Refusal.TheVariants.{LongText, LongName, ManyLines, ManyInputs, ManyOutputs, Redriven, UnknownPin, UnknownOutput, NoInput, NoOutput}
use Rattle.netlist.specs.Tokens.{line_tokens}
use Rattle.texts.specs.Steps.{bind}
use Rattle.netlist.specs.Statements.{Named, Stmt, blank, input, output, gate, statement_of}
use Rattle.netlist.specs.Driving.{State, state, long, full, many_inputs, many_outputs, driven, want_short, want_room, want_undriven, drive_input, short_pins, resolve, drive_gate, ask_output, show_output, drive, show}
use Rattle.texts.specs.Lines.{lines_of}
use Rattle.netlist.specs.Reading.{tell, whole, meaning, Within, Placed}
use Rattle.netlist.proofs.TokenPlaces.{Either, taken, Any, either_refused, either_weaker, either_bind, either_unless, either_ok_or, Refused, Stands, Names, statement_place, Spot, line_fine}

-- a refusal of a statement has the place of one of its names
module _ (G : Place → Type 0) where
  short_place : (n : Named) → Stands G n → Either (Refused G) Any (want_short n)
  short_place n h = either_unless (long n) (LongName n.place) h (taken tt)

  room_place : (p : Plan) (n : Named) → Stands G n → Either (Refused G) Any (want_room p n)
  room_place p n h = either_unless (full p) (ManyLines n.place) h (taken tt)

  undriven_place : (p : Plan) (n : Named) → Stands G n → Either (Refused G) Any (want_undriven p n)
  undriven_place p n h = either_unless (driven p n) (Redriven n.place) h (taken tt)

  input_place : (p : Plan) (n : Named) → Stands G n → Either (Refused G) Any (drive_input p n)
  input_place p n h =
      either_bind (short_place n h) (λ _ _.
      either_bind (room_place p n h) (λ _ _.
      either_unless (many_inputs p) (ManyInputs n.place) h (
      either_bind (undriven_place p n h) (λ _ _. taken tt))))

  short_pins_place : (ns : List Named) → AllByRecursion (Stands G) ns → Either (Refused G) Any (short_pins ns)
  short_pins_place [] h = taken tt
  short_pins_place (n ∷ ns) h = either_unless (long n) (LongName n.place) h.0 (short_pins_place ns h.1)

  resolve_place : (names : List (List ℕ)) (ns : List Named) → AllByRecursion (Stands G) ns → Either (Refused G) Any (resolve names ns)
  resolve_place names [] h = taken tt
  resolve_place names (n ∷ ns) h =
      either_bind (either_ok_or (find names n.bytes) (UnknownPin n.place) h.0) (λ _ _.
      either_bind (resolve_place names ns h.1) (λ _ _. taken tt))

  gate_place : (p : Plan) (n : Named) (k : Kind) (ns : List Named) → Stands G n → AllByRecursion (Stands G) ns → Either (Refused G) Any (drive_gate p n k ns)
  gate_place p n k ns h hs =
      either_bind (short_place n h) (λ _ _.
      either_bind (room_place p n h) (λ _ _.
      either_bind (short_pins_place ns hs) (λ _ _.
      either_bind (undriven_place p n h) (λ _ _.
      either_bind (resolve_place p.names ns hs) (λ _ _. taken tt)))))

  ask_place : (asked : ℕ) (n : Named) → Stands G n → Either (Refused G) Any (ask_output asked n)
  ask_place asked n h =
      either_bind (short_place n h) (λ _ _.
      either_unless (many_outputs asked) (ManyOutputs n.place) h (taken tt))

  output_place : (p : Plan) (n : Named) → Stands G n → Either (Refused G) Any (show_output p n)
  output_place p n h =
      either_bind (either_ok_or (find p.names n.bytes) (UnknownOutput n.place) h) (λ _ _.
      either_unless (many_outputs (length p.outputs)) (ManyOutputs n.place) h (taken tt))

  drive_place : (s : State) (st : Stmt) → Names G st → Either (Refused G) Any (drive s st)
  drive_place s blank h = taken tt
  drive_place s (input n) h = either_bind (input_place s.plan n h) (λ _ _. taken tt)
  drive_place s (output n) h = either_bind (ask_place s.asked n h) (λ _ _. taken tt)
  drive_place s (gate n k ns) h = either_bind (gate_place s.plan n k ns h.0 h.1) (λ _ _. taken tt)

  show_place : (p : Plan) (st : Stmt) → Names G st → Either (Refused G) Any (show p st)
  show_place p blank h = taken tt
  show_place p (input n) h = taken tt
  show_place p (output n) h = output_place p n h
  show_place p (gate n k ns) h = taken tt

-- a place in one of these lines, the first of them line l
abbrev Among : ℕ → List (List ℕ) → Place → Type 0
Among l ls p = (i : ℕ) × (i < length ls) × Spot (l + i) (length (get_or ls i []) + 1) p

-- each refusal of a step has the place of one of the statement's names
module _ {S : Type 0} (step : S → Stmt → Result S Refusal) (placed : (G : Place → Type 0) (s : S) (st : Stmt) → Names G st → Either (Refused G) Any (step s st)) where
  line_place : (l : ℕ) (s : S) (x : List ℕ) → Either (Refused (Spot l (length x + 1))) Any (bind (statement_of (line_tokens l x)) (step s))
  line_place l s x =
      let G = Spot l (length x + 1) in
      either_bind (statement_place G (line_tokens l x) (line_fine l x)) (placed G s)

  tell_place : (l : ℕ) (s : S) (ls : List (List ℕ)) → Either (Refused (Among l ls)) Any (tell step l s ls)
  tell_place l s [] = taken tt
  tell_place l s (x ∷ xs) =
      either_bind (either_weaker (λ _ h. (0, omega arith, (omega arith, h.1, h.2))) (line_place l s x))
      (λ t _. either_weaker (λ _ h. (suc h.0, omega arith, (omega arith, h.2.1, h.2.2))) (tell_place (l + 1) t xs))

module _ (text : List ℕ) where
  among_within : (p : Place) → Among 1 (lines_of text) p → Within text p
  among_within p h =
      let e : h.0 ≡ p.line - 1 = omega arith in
      record {
        line_from = omega arith;
        line_to = omega arith;
        column_from = h.2.1;
        column_to = subst (λ i. p.column ≤ length (get_or (lines_of text) i []) + 1) e h.2.2;
      }

  lines_place : {X : Type 0} {r : Result X Refusal} → Either (Refused (Among 1 (lines_of text))) Any r → Either (Placed text) Any r
  lines_place h = either_weaker (λ e h _. among_within (place_of e) h) h

  whole_place : (p : Plan) → Either (Placed text) Any (whole p)
  whole_place p =
      either_unless (eqb (inputs_in p.lines) 0) NoInput (λ e. absurd (both_ways true e refl))
      (either_unless (eqb (length p.outputs) 0) NoOutput (λ e. absurd (both_ways true e refl)) (taken tt))

  meaning_place : Either (Placed text) Any (meaning text)
  meaning_place =
      either_unless (ltb 65536 (length text)) LongText (λ e. absurd (both_ways true e refl)) (
      either_bind (lines_place (tell_place drive drive_place 1 (state empty 0) (lines_of text))) (λ s _.
      either_bind (lines_place (tell_place show show_place 1 s.plan (lines_of text))) (λ q _.
      whole_place q)))

pub place_law : (text : List ℕ) (e : Refusal) → meaning text ≡ Err e → Placed text e
place_law text e m = either_refused (subst (Either (Placed text) Any) m (meaning_place text))
