-- Statements that make a circuit are refused nowhere.
use Rattle.std.proofs.Common.{◌≡◌, ℕ, ◌+◌, ◌<◌, ◌≤◌, Bool, true, false, not, List, [], ◌∷◌, ◌++◌, map, length, get_or, take, Some, None, Ok, Result, sym, refl, ap, ◌∙◌, subst, arith}
use Rattle.std.proofs.lemmas.List.{append_assoc, append-nil, take_at, get_or_at, get_or_append_left, length_push, length-map, length-append}
use Rattle.std.proofs.ByRecursion.{All-from_get_or}
use Rattle.std.proofs.lemmas.Bool.{and_from, le-leb, lt-leb, le-ltb, ne_eqb, cond-true, cond-false}
use Rattle.std.specs.List.{AllByRecursion}
use Rattle.circuit.specs.Gates.{fits, least, most}
use Rattle.circuit.specs.Names.{find}
use Rattle.circuit.specs.Plans.{Plan, Sound}
use Rattle.circuit.specs.Shape as shape
use Rattle.circuit.specs.Shape.{is_input, input_at, pin_count, pin_from, least_pins, most_pins, gate_of, pins_of, inputs_in}
use Rattle.circuit.specs.declared.kinds.Kind.{Kind}
use Rattle.circuit.specs.declared.lines.Gate.{Gate as GateT}
use Rattle.circuit.specs.declared.lines.Line.{Line}
use Rattle.circuit.specs.declared.lines.Line.TheVariants.{Input, Gate}
use Rattle.circuit.specs.declared.refusals.Refusal.{Refusal}
use Rattle.netlist.specs.Statements as stmt
use Rattle.texts.specs.Steps.{bind, unless}
use Rattle.netlist.specs.Statements.{Stmt, Named}
use Rattle.netlist.specs.Driving.{Fits, State, state, with_line, drive_input, drive_gate, show_output, drive, show, short_pins, resolve, long, full, many_inputs, many_outputs}
use Rattle.netlist.specs.Grammar.{Said, input, output, gate, name_at, driver, drivers, drives, driving, showing}
use Rattle.netlist.proofs.Said.{said_of, bytes_at, Fitting, start}
use Rattle.netlist.specs.Reading.{whole}
use Rattle.netlist.proofs.TextLines.{fold, said}
use Rattle.circuit.proofs.Found.{find_at, find_none}
use Rattle.netlist.proofs.Drawn.{pins_below}
use Rattle.netlist.proofs.Pushed.{inputs_append}

driver_fitting : (p : Plan) (n : List ℕ) (l : Line) → (least_pins l ≤ pin_count l) × (pin_count l ≤ most_pins l) → Fitting (driver p n l)
driver_fitting p n (Input j) c = tt
driver_fitting p n (Gate g) c =
    let k = length g.pins in
    subst (λ n. fits g.kind n ≡ true) (sym (length-map g.pins (name_at p))) (and_from _ _ (le-leb (least g.kind) k c.0) (le-leb k (most g.kind) c.1))

drivers_fitting : (p : Plan) (ns : List (List ℕ)) (ls : List Line) → AllByRecursion (λ l. (least_pins l ≤ pin_count l) × (pin_count l ≤ most_pins l)) ls → AllByRecursion Fitting (drivers p ns ls)
drivers_fitting p [] ls c = tt
drivers_fitting p (n ∷ ns) [] c = tt
drivers_fitting p (n ∷ ns) (l ∷ ls) c = (driver_fitting p n l c.0, drivers_fitting p ns ls c.1)

driving_fitting : (ss : List Said) → AllByRecursion Fitting (driving ss) → AllByRecursion Fitting ss
driving_fitting [] h = tt
driving_fitting (input n ∷ ss) h = (tt, driving_fitting ss h.1)
driving_fitting (output n ∷ ss) h = (tt, driving_fitting ss h)
driving_fitting (gate n k ns ∷ ss) h = (h.0, driving_fitting ss h.1)

bind_by : {X Y : Type 0} {r : Result X Refusal} {x : X} (f : X → Result Y Refusal) → r ≡ Ok x → bind r f ≡ f x
bind_by f e = ap (λ r. bind r f) e

unless_by : {X : Type 0} {b : Bool} (d : Refusal) (r : Result X Refusal) → b ≡ false → unless b d r ≡ r
unless_by d r e = ap (λ b. unless b d r) e

short_by : (n : Named) (w : List ℕ) → n.bytes ≡ w → length w ≤ 16 → long n ≡ false
short_by n w e h = le-ltb 16 (length n.bytes) (omega (arith, ap length e))

module _ (P : Plan) (sound : Sound P) where
  pub makes_fitting : (ss : List Said) → driving ss ≡ drivers P P.names P.lines → AllByRecursion Fitting ss
  makes_fitting ss e =
      driving_fitting ss (subst (AllByRecursion Fitting) (sym e)
      (drivers_fitting P P.names P.lines (All-from_get_or _ P.lines shape.blank sound.counted)))

  -- the names that are driven already, and those to come
  module _ (dn rn : List (List ℕ)) (split : dn ++ rn ≡ P.names) where
    within_names : length dn ≤ length P.names
    within_names = omega (arith, length-append dn rn, ap length split)

    kept_name : (i : ℕ) → i < length dn → name_at P i ≡ get_or dn i []
    kept_name i lt = ap (λ ns. get_or ns i []) (sym split) ∙ get_or_append_left dn rn [] i lt

    name_found : (i : ℕ) (w : List ℕ) → i < length dn → w ≡ name_at P i → find dn w ≡ Some i
    name_found i w lt e =
        let n = within_names in
        find_at i dn w lt (sym (kept_name i lt) ∙ sym e) (λ k below d. sound.distinct k i below (omega arith) (kept_name k (omega arith) ∙ d ∙ e))

    short_name : (i : ℕ) (w : List ℕ) → i < length dn → w ≡ name_at P i → length w ≤ 16
    short_name i w lt e = let n = within_names in omega (arith, ap length e, sound.short i (omega arith))

    pins_read : (ns : List Named) (ps : List ℕ) → map bytes_at ns ≡ map (name_at P) ps → AllByRecursion (λ i. i < length dn) ps → (short_pins ns ≡ Ok tt) × (resolve dn ns ≡ Ok ps)
    pins_read [] [] e h = (refl, refl)
    pins_read [] (i ∷ ps) e h = absurd (cc)
    pins_read (n ∷ ns) [] e h = absurd (cc)
    pins_read (n ∷ ns) (i ∷ ps) e h =
        let here : n.bytes ≡ name_at P i = cc in
        let there : map bytes_at ns ≡ map (name_at P) ps = cc in
        let r = pins_read ns ps there h.1 in (
          unless_by _ _ (short_by n n.bytes refl (short_name i n.bytes h.0 here)) ∙ r.0,
          rw (name_found i n.bytes h.0 here, r.1),
        )

  -- the name that comes next is short and new
  module _ (dn rn : List (List ℕ)) (w : List ℕ) (split : dn ++ w ∷ rn ≡ P.names) where
    next_within : length dn < length P.names
    next_within = omega (arith, length-append dn (w ∷ rn), ap length split)

    next_name : name_at P (length dn) ≡ w
    next_name = ap (λ ns. get_or ns (length dn) []) (sym split) ∙ get_or_at dn w rn [] (length dn) refl

    next_short : length w ≤ 16
    next_short = omega (arith, ap length next_name, sound.short (length dn) next_within)

    next_new : find dn w ≡ None
    next_new = find_none dn w (λ k lt e. sound.distinct k (length dn) lt next_within (kept_name dn (w ∷ rn) split k lt ∙ e ∙ sym next_name))

  -- the line that comes next may follow those before it
  module _ (dl rl : List Line) (l : Line) (split : dl ++ l ∷ rl ≡ P.lines) where
    line_within : length dl < length P.lines
    line_within = omega (arith, length-append dl (l ∷ rl), ap length split)

    next_line : get_or P.lines (length dl) shape.blank ≡ l
    next_line = ap (λ ls. get_or ls (length dl) shape.blank) (sym split) ∙ get_or_at dl l rl shape.blank (length dl) refl

    next_fits : Fits dl l
    next_fits =
        let i = length dl in
        record {
          counted = subst (λ l. (least_pins l ≤ pin_count l) × (pin_count l ≤ most_pins l)) next_line (sound.counted i line_within);
          fed = subst (λ l. (p : ℕ) → p < pin_count l → pin_from l p < i) next_line (λ p. sound.fed i p line_within);
          numbered = λ h.
              subst (λ l. is_input l ≡ true → input_at l ≡ inputs_in (take i P.lines)) next_line (sound.numbered i line_within) h
              ∙ ap (λ ls. inputs_in (take i ls)) (sym split) ∙ ap inputs_in (take_at dl (l ∷ rl) i refl);
        }

    next_inputs : inputs_in dl + inputs_in (l ∷ []) ≤ 64
    next_inputs =
        omega (arith, sound.few_inputs, ap inputs_in split, inputs_append dl (l ∷ rl), inputs_append (l ∷ []) rl)

  abbrev before : List Line → List (List ℕ) → Plan
  before dl dn = record { lines = dl; names = dn; outputs = [] }

  -- the next line is driven by the statement that names it
  module _ (dl rl : List Line) (dn rn : List (List ℕ)) (w : List ℕ) (size : length dl ≡ length dn) (names : dn ++ w ∷ rn ≡ P.names) where
    drives_input : (j : ℕ) (n : Named) → dl ++ Input j ∷ rl ≡ P.lines → n.bytes ≡ w → drive_input (before dl dn) n ≡ Ok (with_line (before dl dn) w (Input j))
    drives_input j n lines e =
        let q = before dl dn in
        let room = line_within dl rl (Input j) lines in
        let inputs = next_inputs dl rl (Input j) lines in
        let few = sound.few_lines in
        let short : long n ≡ false = short_by n w e (next_short dn rn w names) in
        let roomy : full q ≡ false = lt-leb 1024 (length dl) (omega arith) in
        let more : many_inputs q ≡ false = lt-leb 64 (inputs_in dl) (omega arith) in
        let new : find dn n.bytes ≡ None = ap (find dn) e ∙ next_new dn rn w names in
        let number : inputs_in dl ≡ j = sym ((next_fits dl rl (Input j) lines).numbered refl) in
        rw (short, roomy, more, new, number, e)

    drives_gate : (g : GateT) (n : Named) (ns : List Named) → dl ++ Gate g ∷ rl ≡ P.lines → n.bytes ≡ w → map bytes_at ns ≡ map (name_at P) (pins_of (Gate g)) → drive_gate (before dl dn) n g.kind ns ≡ Ok (with_line (before dl dn) w (Gate g))
    drives_gate g n ns lines e es =
        let q = before dl dn in
        let room = line_within dl rl (Gate g) lines in
        let few = sound.few_lines in
        let f = next_fits dl rl (Gate g) lines in
        let low : AllByRecursion (λ i. i < length dn) (pins_of (Gate g)) = subst (λ n. AllByRecursion (λ i. i < n) (pins_of (Gate g))) size (pins_below (Gate g) (length dl) f.fed) in
        let pins = pins_read dn (w ∷ rn) names ns (pins_of (Gate g)) es low in
        let short : long n ≡ false = short_by n w e (next_short dn rn w names) in
        let roomy : full q ≡ false = lt-leb 1024 (length dl) (omega arith) in
        let new : find dn n.bytes ≡ None = ap (find dn) e ∙ next_new dn rn w names in
        rw (short, roomy, pins.0, new, pins.1, e)

    line_input : (l : Line) (n : Named) → dl ++ l ∷ rl ≡ P.lines → input n.bytes ≡ driver P w l → drive_input (before dl dn) n ≡ Ok (with_line (before dl dn) w l)
    line_input (Input j) n lines e = let b : n.bytes ≡ w = cc in drives_input j n lines b
    line_input (Gate g) n lines e = absurd (cc)

    line_gate : (l : Line) (n : Named) (k : Kind) (ns : List Named) → dl ++ l ∷ rl ≡ P.lines → gate n.bytes k (map bytes_at ns) ≡ driver P w l → drive_gate (before dl dn) n k ns ≡ Ok (with_line (before dl dn) w l)
    line_gate (Input j) n k ns lines e = absurd (cc)
    line_gate (Gate g) n k ns lines e =
        let b : n.bytes ≡ w = cc in
        let c : k ≡ g.kind = cc in
        let d : map bytes_at ns ≡ map (name_at P) (pins_of (Gate g)) = cc in
        ap (λ k. drive_gate (before dl dn) n k ns) c ∙ drives_gate g n ns lines b d

  abbrev drawing : List Line → List (List ℕ) → ℕ → State
  drawing dl dn a = record { plan = before dl dn; asked = a }

  -- what is left of the statements drives what is left of the lines, and shows these outputs
  record Left (dl : List Line) (dn : List (List ℕ)) (a : ℕ) (ss : List Said) : Type 0 where
    to_drive : List Line
    to_name : List (List ℕ)
    to_show : List ℕ
    lines : dl ++ to_drive ≡ P.lines
    names : dn ++ to_name ≡ P.names
    size : length dl ≡ length dn
    driven : driving ss ≡ drivers P to_name to_drive
    shown : showing ss ≡ map (λ o. output (name_at P o)) to_show
    within : AllByRecursion (λ o. o < length P.names) to_show
    few : a + length to_show ≤ 63

  -- the line that statement s drives
  record Next (dl : List Line) (dn : List (List ℕ)) (a : ℕ) (s : Said) (ss : List Said) : Type 0 where
    word : List ℕ
    line : Line
    more_lines : List Line
    more_names : List (List ℕ)
    lines : dl ++ line ∷ more_lines ≡ P.lines
    names : dn ++ word ∷ more_names ≡ P.names
    is : s ≡ driver P word line
    left : Left (dl ++ line ∷ []) (dn ++ word ∷ []) a ss

  module _ (dl : List Line) (dn : List (List ℕ)) (a : ℕ) where
    next_of : (s : Said) (ss : List Said) (ls : List Line) (ns : List (List ℕ)) (os : List ℕ) → dl ++ ls ≡ P.lines → dn ++ ns ≡ P.names → length dl ≡ length dn → s ∷ driving ss ≡ drivers P ns ls
        → showing ss ≡ map (λ o. output (name_at P o)) os → AllByRecursion (λ o. o < length P.names) os → a + length os ≤ 63 → Next dl dn a s ss
    next_of s ss ls [] os lines names size e shown within few = absurd (cc)
    next_of s ss [] (n ∷ ns) os lines names size e shown within few = absurd (cc)
    next_of s ss (l ∷ ls) (n ∷ ns) os lines names size e shown within few =
        record {
          word = n;
          line = l;
          more_lines = ls;
          more_names = ns;
          lines = lines;
          names = names;
          is = cc;
          left = record {
            to_drive = ls;
            to_name = ns;
            to_show = os;
            lines = append_assoc dl (l ∷ []) ls ∙ lines;
            names = append_assoc dn (n ∷ []) ns ∙ names;
            size = omega (arith, length_push dl l, length_push dn n);
            driven = cc;
            shown = shown;
            within = within;
            few = few;
          };
        }

    next : (s : Said) (ss : List Said) → drives s ≡ true → Left dl dn a (s ∷ ss) → Next dl dn a s ss
    next s ss d r =
        next_of s ss r.to_drive r.to_name r.to_show r.lines r.names r.size
        (sym (cond-true (drives s) (s ∷ driving ss) (driving ss) d) ∙ r.driven) (sym (cond-false (not (drives s)) (s ∷ showing ss) (showing ss) (ap not d)) ∙ r.shown) r.within r.few

  -- what a statement leaves
  record Stepped (dl : List Line) (dn : List (List ℕ)) (a : ℕ) (st : Stmt) (ss : List Said) : Type 0 where
    lines : List Line
    names : List (List ℕ)
    asked : ℕ
    step : drive (drawing dl dn a) st ≡ Ok (drawing lines names asked)
    left : Left lines names asked ss

  module _ (dl : List Line) (dn : List (List ℕ)) (a : ℕ) where
    asks : (n : Named) (ss : List Said) (os : List ℕ) → Left dl dn a (output n.bytes ∷ ss) → output n.bytes ∷ showing ss ≡ map (λ o. output (name_at P o)) os → AllByRecursion (λ o. o < length P.names) os → a + length os ≤ 63 → Stepped dl dn a (stmt.output n) ss
    asks n ss [] r e within few = absurd (cc)
    asks n ss (o ∷ os) r e within few =
        let b : n.bytes ≡ name_at P o = cc in
        let short : long n ≡ false = short_by n (name_at P o) b (sound.short o within.0) in
        let room : many_outputs a ≡ false = lt-leb 63 a (omega arith) in
        record {
          lines = dl;
          names = dn;
          asked = a + 1;
          step = rw (short, room);
          left = record { to_drive = r.to_drive; to_name = r.to_name; to_show = os; lines = r.lines; names = r.names; size = r.size; driven = r.driven; shown = cc; within = within.1; few = omega arith };
        }

    stepped : (st : Stmt) (ss : List Said) → Left dl dn a (said_of st ++ ss) → Stepped dl dn a st ss
    stepped stmt.blank ss r = record { lines = dl; names = dn; asked = a; step = refl; left = r }
    stepped (stmt.input n) ss r =
        let x = next dl dn a (input n.bytes) ss refl r in
        record {
          lines = dl ++ x.line ∷ [];
          names = dn ++ x.word ∷ [];
          asked = a;
          step = bind_by (λ q. Ok (record { plan = q; asked = a })) (line_input dl x.more_lines dn x.more_names x.word r.size x.names x.line n x.lines x.is);
          left = x.left;
        }
    stepped (stmt.output n) ss r = asks n ss r.to_show r r.shown r.within r.few
    stepped (stmt.gate n k ns) ss r =
        let x = next dl dn a (gate n.bytes k (map bytes_at ns)) ss refl r in
        record {
          lines = dl ++ x.line ∷ [];
          names = dn ++ x.word ∷ [];
          asked = a;
          step = bind_by (λ q. Ok (record { plan = q; asked = a })) (line_gate dl x.more_lines dn x.more_names x.word r.size x.names x.line n k ns x.lines x.is);
          left = x.left;
        }

    nothing_left : (ls : List Line) (ns : List (List ℕ)) → length ls ≡ length ns → [] ≡ drivers P ns ls → (ls ≡ []) × (ns ≡ [])
    nothing_left [] [] size e = (refl, refl)
    nothing_left [] (n ∷ ns) size e = absurd (omega arith)
    nothing_left (l ∷ ls) [] size e = absurd (omega arith)
    nothing_left (l ∷ ls) (n ∷ ns) size e = absurd (cc)

    ended : Left dl dn a [] → drawing dl dn a ≡ drawing P.lines P.names a
    ended r =
        let ls = r.to_drive in
        let ns = r.to_name in
        let size : length ls ≡ length ns = omega (arith, length-append dl ls, length-append dn ns, ap length r.lines, ap length r.names, sound.named, r.size) in
        let none = nothing_left ls ns size r.driven in
        let x : dl ≡ P.lines = sym (append-nil dl) ∙ ap (λ ls. dl ++ ls) (sym none.0) ∙ r.lines in
        let y : dn ≡ P.names = sym (append-nil dn) ∙ ap (λ ns. dn ++ ns) (sym none.1) ∙ r.names in
        ap (λ ls. drawing ls dn a) x ∙ ap (λ ns. drawing P.lines ns a) y

  drives_all : (dl : List Line) (dn : List (List ℕ)) (a : ℕ) (sts : List Stmt) → Left dl dn a (said sts) → (b : ℕ) × (fold drive (drawing dl dn a) sts ≡ Ok (drawing P.lines P.names b))
  drives_all dl dn a [] r = (a, ap (λ s. Ok s) (ended dl dn a r))
  drives_all dl dn a (st ∷ sts) r =
      let x = stepped dl dn a st (said sts) r in
      let more = drives_all x.lines x.names x.asked sts x.left in
      (more.0, bind_by (λ t. fold drive t sts) x.step ∙ more.1)

  -- with the outputs shown so far
  abbrev pub showing_now : List ℕ → Plan
  showing_now os = record { lines = P.lines; names = P.names; outputs = os }

  shows_one : (done rest : List ℕ) (o : ℕ) (n : Named) → done ++ o ∷ rest ≡ P.outputs → n.bytes ≡ name_at P o → show_output (showing_now done) n ≡ Ok (showing_now (done ++ o ∷ []))
  shows_one done rest o n split e =
      let few = sound.few_outputs in
      let size : length done < length P.outputs = omega (arith, length-append done (o ∷ rest), ap length split) in
      let here : get_or P.outputs (length done) 0 ≡ o = ap (λ os. get_or os (length done) 0) (sym split) ∙ get_or_at done o rest 0 (length done) refl in
      let low : o < length P.names = omega (arith, here, sound.shown (length done) size, sound.named) in
      let found : find P.names n.bytes ≡ Some o = name_found P.names [] (append-nil P.names) o n.bytes low e in
      let room : many_outputs (length done) ≡ false = lt-leb 63 (length done) (omega arith) in
      rw (found, room)

  shows_all : (done rest : List ℕ) (sts : List Stmt) → done ++ rest ≡ P.outputs → showing (said sts) ≡ map (λ o. output (name_at P o)) rest → fold show (showing_now done) sts ≡ Ok P
  shows_all done [] [] split e = ap (λ os. Ok (showing_now os)) (sym (append-nil done) ∙ split)
  shows_all done (o ∷ rest) [] split e = absurd (cc)
  shows_all done rest (stmt.blank ∷ sts) split e = shows_all done rest sts split e
  shows_all done rest (stmt.input n ∷ sts) split e = shows_all done rest sts split e
  shows_all done [] (stmt.output n ∷ sts) split e = absurd (cc)
  shows_all done (o ∷ rest) (stmt.output n ∷ sts) split e =
      let b : n.bytes ≡ name_at P o = cc in
      let c : showing (said sts) ≡ map (λ o. output (name_at P o)) rest = cc in
      ap (λ r. bind r (λ t. fold show t sts)) (shows_one done rest o n split b)
      ∙ shows_all (done ++ o ∷ []) rest sts (append_assoc done (o ∷ []) rest ∙ split) c
  shows_all done rest (stmt.gate n k ns ∷ sts) split e = shows_all done rest sts split e

  pub whole_again : whole P ≡ Ok P
  whole_again =
      let some = sound.some_input in
      let more = sound.some_output in
      unless_by _ _ (ne_eqb (inputs_in P.lines) 0 (λ e. omega arith)) ∙ unless_by _ _ (ne_eqb (length P.outputs) 0 (λ e. omega arith))

  module _ (sts : List Stmt) (driven : driving (said sts) ≡ drivers P P.names P.lines) (shown : showing (said sts) ≡ map (λ o. output (name_at P o)) P.outputs) where
    pub all_driven : (b : ℕ) × (fold drive start sts ≡ Ok (state (showing_now []) b))
    all_driven =
        drives_all [] [] 0 sts
        (record {
          to_drive = P.lines;
          to_name = P.names;
          to_show = P.outputs;
          lines = refl;
          names = refl;
          size = refl;
          driven = driven;
          shown = shown;
          within = All-from_get_or _ P.outputs 0 (λ i h. subst (λ n. get_or P.outputs i 0 < n) (sym sound.named) (sound.shown i h));
          few = omega (arith, sound.few_outputs);
        })

    pub all_shown : fold show (showing_now []) sts ≡ Ok P
    all_shown = shows_all [] P.outputs sts refl shown
