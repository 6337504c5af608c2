-- What the statements make, where none is refused.
use Rattle.std.proofs.Common.{◌≡◌, ℕ, ◌+◌, ◌<◌, ◌≤◌, true, not, eqb, List, [], ◌∷◌, ◌++◌, map, length, get_or, None, Ok, sym, refl, ap, ◌∙◌, subst, arith}
use Rattle.std.proofs.lemmas.List.{append_assoc, append-nil, get_or_append_left, length_push, length-map, map-append}
use Rattle.std.proofs.lemmas.List.Elements.{filter-append}
use Rattle.std.proofs.ByRecursion.{All-get_or, All-from_get_or, All-append, All-weaker}
use Rattle.std.proofs.lemmas.Bool.{leb-false, ltb-false, eqb-false}
use Rattle.std.specs.Option.{ok_or}
use Rattle.std.specs.List.{AllByRecursion}
use Rattle.circuit.specs.Gates.{fits}
use Rattle.circuit.specs.Names.{find}
use Rattle.circuit.specs.Plans.{Plan, empty}
use Rattle.circuit.specs.Shape as shape
use Rattle.circuit.specs.Shape.{pin_count, pin_from, gate_of, pins_of, inputs_in, Counted, Fed, Numbered, Brief, Distinct}
use Rattle.circuit.specs.declared.kinds.Kind.{Kind}
use Rattle.circuit.specs.declared.lines.Line.{Line}
use Rattle.circuit.specs.declared.lines.Line.TheVariants.{Input, Gate}
use Rattle.netlist.specs.Statements as stmt
use Rattle.netlist.specs.Statements.{Stmt, Named}
use Rattle.netlist.specs.Driving.{Fits, State, state, with_line, with_output, drive_input, drive_gate, ask_output, show_output, drive, show, short_pins, resolve, want_short, want_room, want_undriven, long, full, many_inputs, many_outputs, driven}
use Rattle.netlist.specs.Grammar.{Said, input, output, gate, name_at, driver, drivers, drives, driving, showing, Makes}
use Rattle.netlist.proofs.Said.{said_of, bytes_at, Fitting, start}
use Rattle.netlist.specs.Reading.{whole}
use Rattle.texts.proofs.Risen.{bind_ok, unless_ok, ok_or_ok}
use Rattle.netlist.proofs.Risen.{not_some}
use Rattle.netlist.proofs.Pushed.{every_push, counted_push, fed_push, numbered_push, distinct_push, inputs_append, fits_gate, resolved}
use Rattle.netlist.proofs.TextLines.{fold, said, all_parts}
use Rattle.circuit.proofs.Found.{found_at}

-- a circuit in the making, before its outputs
record Grown (p : Plan) : Type 0 where
  few_lines : length p.lines ≤ 1024
  few_inputs : inputs_in p.lines ≤ 64
  counted : Counted p.lines
  fed : Fed p.lines
  numbered : Numbered p.lines
  named : length p.names ≡ length p.lines
  short : Brief p.names
  distinct : Distinct p.names
  unshown : p.outputs ≡ []

grown_push : (p : Plan) (w : List ℕ) (l : Line) → Grown p → Fits p.lines l → length w ≤ 16 → length p.lines < 1024 → inputs_in p.lines + inputs_in (l ∷ []) ≤ 64 → find p.names w ≡ None → Grown (with_line p w l)
grown_push p w l g f short room inputs fresh =
    let ls = p.lines in
    let a = length_push ls l in
    let b = length_push p.names w in
    record {
      few_lines = omega arith;
      few_inputs = omega (arith, inputs_append ls (l ∷ []));
      counted = counted_push ls l f g.counted;
      fed = fed_push ls l f g.fed;
      numbered = numbered_push ls l f g.numbered;
      named = omega (arith, g.named);
      short = every_push [] (λ i x. length x ≤ 16) p.names w g.short short;
      distinct = distinct_push p.names w g.distinct fresh;
      unshown = g.unshown;
    }

grown_none : Grown empty
grown_none =
    record {
      few_lines = omega arith;
      few_inputs = omega arith;
      counted = λ i h. absurd (omega arith);
      fed = λ i p h. absurd (omega arith);
      numbered = λ i h. absurd (omega arith);
      named = refl;
      short = λ i h. absurd (omega arith);
      distinct = λ i j lt h. absurd (omega arith);
      unshown = refl;
    }

fits_input : (ls : List Line) → Fits ls (Input (inputs_in ls))
fits_input ls = record { counted = (omega arith, omega arith); fed = λ p h. absurd (omega arith); numbered = λ _. refl }

map_same : {X Y : Type 0} (f g : X → Y) (xs : List X) → AllByRecursion (λ x. f x ≡ g x) xs → map f xs ≡ map g xs
map_same f g [] h = refl
map_same f g (x ∷ xs) h = let a = h.0 in let b = map_same f g xs h.1 in cc

pub pins_below : (l : Line) (n : ℕ) → ((p : ℕ) → p < pin_count l → pin_from l p < n) → AllByRecursion (λ i. i < n) (pins_of l)
pins_below (Input j) n h = tt
pins_below (Gate g) n h =
    All-from_get_or (λ i. i < n) g.pins 0 h

driver_same : (p q : Plan) (n : List ℕ) (l : Line) → AllByRecursion (λ i. name_at p i ≡ name_at q i) (pins_of l) → driver p n l ≡ driver q n l
driver_same p q n (Input j) h = refl
driver_same p q n (Gate g) h = ap (gate n g.kind) (map_same (name_at p) (name_at q) (pins_of (Gate g)) h)

drivers_same : (p q : Plan) (ns : List (List ℕ)) (ls : List Line) → AllByRecursion (λ l. AllByRecursion (λ i. name_at p i ≡ name_at q i) (pins_of l)) ls → drivers p ns ls ≡ drivers q ns ls
drivers_same p q [] ls h = refl
drivers_same p q (n ∷ ns) [] h = refl
drivers_same p q (n ∷ ns) (l ∷ ls) h = let a = driver_same p q n l h.0 in let b = drivers_same p q ns ls h.1 in cc

drivers_push : (p : Plan) (ns : List (List ℕ)) (n : List ℕ) (ls : List Line) (l : Line) → length ns ≡ length ls → drivers p (ns ++ n ∷ []) (ls ++ l ∷ []) ≡ drivers p ns ls ++ driver p n l ∷ []
drivers_push p [] n [] l h = refl
drivers_push p [] n (m ∷ ls) l h = absurd (omega arith)
drivers_push p (x ∷ ns) n [] l h = absurd (omega arith)
drivers_push p (x ∷ ns) n (m ∷ ls) l h = ap (λ ds. driver p x m ∷ ds) (drivers_push p ns n ls l (omega arith))

-- a name more leaves the names of earlier lines
drivers_kept : (p : Plan) (w : List ℕ) (l : Line) → Grown p → drivers (with_line p w l) p.names p.lines ≡ drivers p p.names p.lines
drivers_kept p w l g =
    drivers_same (with_line p w l) p p.names p.lines
    (All-from_get_or _ p.lines shape.blank
    (λ i lt. All-weaker (λ k. k < i) (λ k. name_at (with_line p w l) k ≡ name_at p k)
    (λ k below. get_or_append_left p.names (w ∷ []) [] k (omega (arith, g.named)))
    (pins_of (get_or p.lines i shape.blank)) (pins_below (get_or p.lines i shape.blank) i (λ n. g.fed i n lt))))

drivers_with_line : (p : Plan) (w : List ℕ) (l : Line) (s : Said) → Grown p → driver (with_line p w l) w l ≡ s → drivers (with_line p w l) (p.names ++ w ∷ []) (p.lines ++ l ∷ []) ≡ drivers p p.names p.lines ++ s ∷ []
drivers_with_line p w l s g e =
    drivers_push (with_line p w l) p.names w p.lines l g.named
    ∙ ap (λ ds. ds ++ driver (with_line p w l) w l ∷ []) (drivers_kept p w l g)
    ∙ ap (λ d. drivers p p.names p.lines ++ d ∷ []) e

-- what a statement adds to the lines
abbrev Adds : Plan → List Said → Plan → Type 0
Adds p ss q = Grown q × (drivers q q.names q.lines ≡ drivers p p.names p.lines ++ driving ss)

short_ok : (n : Named) (w : List ℕ) → want_short n ≡ Ok w → (length w ≤ 16) × (n.bytes ≡ w)
short_ok n w e =
    let a = unless_ok (long n) _ (Ok n.bytes) w e in
    let r = a.1 in
    let z : n.bytes ≡ w = cc in
    (rw (← z) (ltb-false 16 (length n.bytes) a.0), z)

room_ok : (p : Plan) (n : Named) (u : Unit {0}) → want_room p n ≡ Ok u → length p.lines < 1024
room_ok p n u e = leb-false 1024 (length p.lines) (unless_ok (full p) _ (Ok tt) u e).0

undriven_ok : (p : Plan) (n : Named) (u : Unit {0}) → want_undriven p n ≡ Ok u → find p.names n.bytes ≡ None
undriven_ok p n u e = not_some (find p.names n.bytes) (unless_ok (driven p n) _ (Ok tt) u e).0

adds_input : (p q : Plan) (n : Named) → Grown p → drive_input p n ≡ Ok q → Adds p (input n.bytes ∷ []) q
adds_input p q n g e =
    let l = Input (inputs_in p.lines) in
    let a = bind_ok (want_short n) _ q e in
    let w = a.0 in
    let b = bind_ok (want_room p n) _ q a.2 in
    let c = unless_ok (many_inputs p) _ _ q b.2 in
    let d = bind_ok (want_undriven p n) _ q c.1 in
    let s = short_ok n w a.1 in
    let made = d.2 in
    let z : with_line p w l ≡ q = cc in
    let inputs = leb-false 64 (inputs_in p.lines) c.0 in
    subst (Adds p (input n.bytes ∷ [])) z (
      grown_push p w l g (fits_input p.lines) s.0 (room_ok p n b.0 b.1) (omega arith) (subst (λ w. find p.names w ≡ None) s.1 (undriven_ok p n d.0 d.1)),
      drivers_with_line p w l (input n.bytes) g (ap input (sym s.1)),
    )

gate_driver : (p : Plan) (w : List ℕ) (k : Kind) (ns : List Named) (ls : List ℕ) → AllByRecursion (λ i. i < length p.names) ls → map (name_at p) ls ≡ map bytes_at ns → driver (with_line p w (Gate (gate_of k ls))) w (Gate (gate_of k ls)) ≡ gate w k (map bytes_at ns)
gate_driver p w k ns ls h e =
    let q = with_line p w (Gate (gate_of k ls)) in
    ap (gate w k) (map_same (name_at q) (name_at p) ls (All-weaker (λ i. i < length p.names) (λ i. name_at q i ≡ name_at p i) (λ i lt. get_or_append_left p.names (w ∷ []) [] i lt) ls h) ∙ e)

adds_gate : (p q : Plan) (n : Named) (k : Kind) (ns : List Named) → Grown p → fits k (length (map bytes_at ns)) ≡ true → drive_gate p n k ns ≡ Ok q → Adds p (gate n.bytes k (map bytes_at ns) ∷ []) q
adds_gate p q n k ns g f e =
    let a = bind_ok (want_short n) _ q e in
    let w = a.0 in
    let b = bind_ok (want_room p n) _ q a.2 in
    let c = bind_ok (short_pins ns) _ q b.2 in
    let d = bind_ok (want_undriven p n) _ q c.2 in
    let r = bind_ok (resolve p.names ns) _ q d.2 in
    let ls = r.0 in
    let l = Gate (gate_of k ls) in
    let s = short_ok n w a.1 in
    let found = resolved p.names ns ls r.1 in
    let size : length (map bytes_at ns) ≡ length ls = sym (ap length found.1) ∙ length-map ls (name_at p) in
    let low : AllByRecursion (λ i. i < length p.lines) ls = subst (λ n. AllByRecursion (λ i. i < n) ls) g.named found.0 in
    let made = r.2 in
    let z : with_line p w l ≡ q = cc in
    subst (Adds p (gate n.bytes k (map bytes_at ns) ∷ [])) z (
      grown_push p w l g (fits_gate p.lines k ls (subst (λ n. fits k n ≡ true) size f) low) s.0 (room_ok p n b.0 b.1) (omega (arith, g.few_inputs)) (subst (λ w. find p.names w ≡ None) s.1 (undriven_ok p n d.0 d.1)),
      drivers_with_line p w l (gate n.bytes k (map bytes_at ns)) g (gate_driver p w k ns ls found.0 found.1 ∙ ap (λ w. gate w k (map bytes_at ns)) (sym s.1)),
    )

adds : (p : Plan) (m : ℕ) (t : State) (st : Stmt) → Grown p → AllByRecursion Fitting (said_of st) → drive (state p m) st ≡ Ok t → Adds p (said_of st) t.plan
adds p m t stmt.blank g f e = let z : p ≡ t.plan = cc in subst (Adds p []) z (g, sym (append-nil _))
adds p m t (stmt.input n) g f e =
    let a = bind_ok (drive_input p n) _ t e in
    let r = a.2 in
    let z : a.0 ≡ t.plan = cc in
    subst (Adds p (input n.bytes ∷ [])) z (adds_input p a.0 n g a.1)
adds p m t (stmt.output n) g f e =
    let a = bind_ok (ask_output m n) _ t e in
    let r = a.2 in
    let z : p ≡ t.plan = cc in
    subst (Adds p (output n.bytes ∷ [])) z (g, sym (append-nil _))
adds p m t (stmt.gate n k ns) g f e =
    let a = bind_ok (drive_gate p n k ns) _ t e in
    let r = a.2 in
    let z : a.0 ≡ t.plan = cc in
    subst (Adds p (gate n.bytes k (map bytes_at ns) ∷ [])) z (adds_gate p a.0 n k ns g f.0 a.1)

drawn : (s t : State) (sts : List Stmt) → Grown s.plan → AllByRecursion Fitting (said sts) → fold drive s sts ≡ Ok t → Adds s.plan (said sts) t.plan
drawn s t [] g f e = let z : s.plan ≡ t.plan = cc in subst (Adds s.plan []) z (g, sym (append-nil _))
drawn s t (st ∷ sts) g f e =
    let h = all_parts Fitting (said_of st) (said sts) f in
    let a = bind_ok (drive s st) _ t e in
    let one = adds s.plan s.asked a.0 st g h.0 a.1 in
    let more = drawn a.0 t sts one.0 h.1 a.2 in
    (more.0, more.1 ∙ ap (λ ds. ds ++ driving (said sts)) one.1 ∙ append_assoc _ (driving (said_of st)) (driving (said sts)) ∙ ap (λ ds. drivers s.plan s.plan.names s.plan.lines ++ ds) (sym (filter-append drives (said_of st) (said sts))))

-- what statements show of a circuit's lines
abbrev with_outputs : Plan → List ℕ → Plan
with_outputs p os = record { lines = p.lines; names = p.names; outputs = p.outputs ++ os }

record Shows (p : Plan) (ss : List Said) (q : Plan) : Type 0 where
  shown : List ℕ
  after : q ≡ with_outputs p shown
  within : AllByRecursion (λ o. o < length p.names) shown
  named : showing ss ≡ map (λ o. output (name_at p o)) shown
  few : length p.outputs ≤ 63 → length q.outputs ≤ 63

shows_none : (p : Plan) (ss : List Said) → showing ss ≡ [] → Shows p ss p
shows_none p ss e = record { shown = []; after = ap (λ os. record { lines = p.lines; names = p.names; outputs = os }) (sym (append-nil p.outputs)); within = tt; named = e; few = λ h. h }

shows_output : (p q : Plan) (n : Named) → show_output p n ≡ Ok q → Shows p (output n.bytes ∷ []) q
shows_output p q n e =
    let a = bind_ok (ok_or (find p.names n.bytes) _) _ q e in
    let l = a.0 in
    let b = unless_ok (many_outputs (length p.outputs)) _ (Ok (with_output p l)) q a.2 in
    let f = found_at l p.names n.bytes (ok_or_ok (find p.names n.bytes) _ l a.1) in
    let low = leb-false 63 (length p.outputs) b.0 in
    let r = b.1 in
    let z : with_output p l ≡ q = cc in
    subst (Shows p (output n.bytes ∷ [])) z
    (record { shown = l ∷ []; after = refl; within = (f.0, tt); named = ap (λ w. output w ∷ []) (sym f.1); few = λ _. omega (arith, length_push p.outputs l) })

shows : (p q : Plan) (st : Stmt) → show p st ≡ Ok q → Shows p (said_of st) q
shows p q stmt.blank e = let z : p ≡ q = cc in subst (Shows p []) z (shows_none p [] refl)
shows p q (stmt.input n) e = let z : p ≡ q = cc in subst (Shows p (said_of (stmt.input n))) z (shows_none p (said_of (stmt.input n)) refl)
shows p q (stmt.output n) e = shows_output p q n e
shows p q (stmt.gate n k ns) e = let z : p ≡ q = cc in subst (Shows p (said_of (stmt.gate n k ns))) z (shows_none p (said_of (stmt.gate n k ns)) refl)

shows_more : (p q r : Plan) (ss ts : List Said) → Shows p ss q → Shows q ts r → Shows p (ss ++ ts) r
shows_more p q r ss ts a b =
    let ns : q.names ≡ p.names = ap (λ p. p.names) a.after in
    let os : q.outputs ≡ p.outputs ++ a.shown = ap (λ p. p.outputs) a.after in
    let ls : q.lines ≡ p.lines = ap (λ p. p.lines) a.after in
    let x = b.after in
    let y = append_assoc p.outputs a.shown b.shown in
    let w : AllByRecursion (λ o. o < length p.names) b.shown = subst (λ ns. AllByRecursion (λ o. o < length ns) b.shown) ns b.within in
    let m : showing ts ≡ map (λ o. output (name_at p o)) b.shown = subst (λ ns. showing ts ≡ map (λ o. output (get_or ns o [])) b.shown) ns b.named in
    record {
      shown = a.shown ++ b.shown;
      after = cc;
      within = All-append (λ o. o < length p.names) a.shown b.shown a.within w;
      named = filter-append (λ s. not (drives s)) ss ts ∙ ap (λ s. s ++ showing ts) a.named ∙ ap (λ s. map (λ o. output (name_at p o)) a.shown ++ s) m ∙ sym (map-append (λ o. output (name_at p o)) a.shown b.shown);
      few = λ h. b.few (a.few h);
    }

shown : (p q : Plan) (sts : List Stmt) → fold show p sts ≡ Ok q → Shows p (said sts) q
shown p q [] e = let z : p ≡ q = cc in subst (Shows p []) z (shows_none p [] refl)
shown p q (st ∷ sts) e =
    let a = bind_ok (show p st) (λ t. fold show t sts) q e in
    shows_more p a.0 q (said_of st) (said sts) (shows p a.0 st a.1) (shown a.0 q sts a.2)

-- which names the drivers have hangs on the names alone
drivers_by_names : (p q : Plan) (ns : List (List ℕ)) (ls : List Line) → p.names ≡ q.names → drivers p ns ls ≡ drivers q ns ls
drivers_by_names p q ns ls e =
    drivers_same p q ns ls (All-from_get_or _ ls shape.blank (λ i _. All-from_get_or _ (pins_of (get_or ls i shape.blank)) 0 (λ j _. ap (λ ns. get_or ns (get_or (pins_of (get_or ls i shape.blank)) j 0) []) e)))

whole_ok : (q p : Plan) → whole q ≡ Ok p → (1 ≤ inputs_in q.lines) × (1 ≤ length q.outputs) × (q ≡ p)
whole_ok q p e =
    let a = unless_ok (eqb (inputs_in q.lines) 0) _ _ p e in
    let b = unless_ok (eqb (length q.outputs) 0) _ _ p a.1 in
    let x = eqb-false (inputs_in q.lines) 0 a.0 in
    let y = eqb-false (length q.outputs) 0 b.0 in
    let r = b.1 in
    (omega arith, omega arith, cc)

-- a circuit in the making, with its outputs
makes_shown : (q : Plan) (os : List ℕ) (ss : List Said) → Grown q → driving ss ≡ drivers q q.names q.lines → showing ss ≡ map (λ o. output (name_at q o)) os → AllByRecursion (λ o. o < length q.names) os
    → 1 ≤ inputs_in q.lines → 1 ≤ length os → length os ≤ 63 → Makes ss (record { lines = q.lines; names = q.names; outputs = os })
makes_shown q os ss g d s within inputs outputs few =
    record {
      sound = record {
        few_lines = g.few_lines;
        some_input = inputs;
        few_inputs = g.few_inputs;
        some_output = outputs;
        few_outputs = few;
        counted = g.counted;
        fed = g.fed;
        numbered = g.numbered;
        shown = λ j h. subst (λ n. get_or os j 0 < n) g.named (All-get_or (λ o. o < length q.names) os j 0 h within);
        named = g.named;
        short = g.short;
        distinct = g.distinct;
      };
      lines = d ∙ drivers_by_names q (record { lines = q.lines; names = q.names; outputs = os }) q.names q.lines refl;
      outputs = s;
    }

pub makes : (s : State) (t p : Plan) (sts : List Stmt) → AllByRecursion Fitting (said sts) → fold drive start sts ≡ Ok s → fold show s.plan sts ≡ Ok t → whole t ≡ Ok p → Makes (said sts) p
makes s t p sts f e1 e2 e3 =
    let q = s.plan in
    let a = drawn start s sts grown_none f e1 in
    let b = shown q t sts e2 in
    let w = whole_ok t p e3 in
    let ls : t.lines ≡ q.lines = ap (λ p. p.lines) b.after in
    let os : t.outputs ≡ b.shown = ap (λ p. p.outputs) b.after ∙ ap (λ xs. xs ++ b.shown) a.0.unshown in
    let ns : t.names ≡ q.names = ap (λ p. p.names) b.after in
    let z : record { lines = q.lines; names = q.names; outputs = b.shown } ≡ p = (let x = w.2 in cc) in
    let few : length t.outputs ≤ 63 = b.few (omega (arith, ap length a.0.unshown)) in
    let some : 1 ≤ length t.outputs = w.1 in
    let inputs : 1 ≤ inputs_in q.lines = subst (λ ls. 1 ≤ inputs_in ls) ls w.0 in
    subst (Makes (said sts)) z
    (makes_shown q b.shown (said sts) a.0 (sym a.1) b.named b.within inputs (omega (arith, ap length os)) (omega (arith, ap length os)))
