-- One line more, or one output more, keeps what every draft is; a gate of pins that are found may follow the lines.
use Rattle.std.proofs.Common.{◌≡◌, ℕ, ◌+◌, ◌<◌, ◌≤◌, true, false, leb, List, [], ◌∷◌, ◌++◌, map, length, get_or, take, None, Ok, sym, refl, ◌∙◌, subst, ⊎_elim, arith}
use Rattle.std.proofs.lemmas.List.{length_push, get_or_push, get_or_append_left, take-append-le, take_at}
use Rattle.std.proofs.ByRecursion.{All-get_or}
use Rattle.std.proofs.lemmas.Bool.{cases_lt, and_parts, leb-true, both_ways}
use Rattle.std.specs.Option.{ok_or}
use Rattle.std.specs.List.{AllByRecursion}
use Rattle.circuit.specs.Gates.{fits, least, most}
use Rattle.circuit.specs.Names.{find}
use Rattle.circuit.specs.Shape.{blank, is_input, input_at, pin_count, pin_from, least_pins, most_pins, gate_of, inputs_in, Counted, Fed, Numbered, Distinct}
use Rattle.circuit.specs.declared.kinds.Kind.{Kind}
use Rattle.circuit.specs.declared.lines.Line.{Line}
use Rattle.circuit.specs.declared.lines.Line.TheVariants.{Input, Gate}
use Rattle.circuit.proofs.Found.{found_at, none_at}
use Rattle.texts.specs.Steps.{bind}
use Rattle.netlist.specs.Statements.{Named}
use Rattle.netlist.specs.Driving.{Fits, resolve}
use Rattle.texts.proofs.Risen.{bind_ok, ok_or_ok}
use Rattle.netlist.proofs.Said.{bytes_at}

-- what holds of each element at its place holds with one element more
pub every_push : {X : Type 0} (d : X) (P : ℕ → X → Type 0) (xs : List X) (x : X) → ((i : ℕ) → i < length xs → P i (get_or xs i d)) → P (length xs) x → (i : ℕ) → i < length (xs ++ x ∷ []) → P i (get_or (xs ++ x ∷ []) i d)
every_push d P xs x h here i lt =
    ⊎_elim (λ below. subst (P i) (sym (get_or_append_left xs (x ∷ []) d i below)) (h i below))
    (λ over.
    let e : length xs ≡ i = omega (arith, length_push xs x) in
    subst (P i) (sym (get_or_push xs x d i e)) (subst (λ k. P k x) e here))
    (cases_lt i (length xs))

module _ (ls : List Line) (l : Line) (ok : Fits ls l) where
  pub counted_push : Counted ls → Counted (ls ++ l ∷ [])
  counted_push h = every_push blank (λ i x. (least_pins x ≤ pin_count x) × (pin_count x ≤ most_pins x)) ls l h ok.counted

  pub fed_push : Fed ls → Fed (ls ++ l ∷ [])
  fed_push h i p lt = every_push blank (λ i x. (p : ℕ) → p < pin_count x → pin_from x p < i) ls l (λ i lt p. h i p lt) ok.fed i lt p

  pub numbered_push : Numbered ls → Numbered (ls ++ l ∷ [])
  numbered_push h =
      every_push blank (λ i x. is_input x ≡ true → input_at x ≡ inputs_in (take i (ls ++ l ∷ []))) ls l
      (λ i lt. rw (take-append-le i ls (l ∷ []) (omega arith)) (h i lt))
      (rw (take_at ls (l ∷ []) (length ls) refl) ok.numbered)

pub distinct_push : (ns : List (List ℕ)) (w : List ℕ) → Distinct ns → find ns w ≡ None → Distinct (ns ++ w ∷ [])
distinct_push ns w h f i j lt within =
    every_push [] (λ k x. (i : ℕ) → i < k → get_or (ns ++ w ∷ []) i [] ≡ x → ⊥) ns w
    (λ k below i lt e. h i k lt below (sym (get_or_append_left ns (w ∷ []) [] i (omega arith)) ∙ e))
    (λ i lt e. none_at ns w f i lt (sym (get_or_append_left ns (w ∷ []) [] i lt) ∙ e))
    j within i lt

pub inputs_append : (ls ms : List Line) → inputs_in (ls ++ ms) ≡ inputs_in ls + inputs_in ms
inputs_append [] ms = omega arith
inputs_append (Input j ∷ ls) ms = omega (arith, inputs_append ls ms)
inputs_append (Gate g ∷ ls) ms = inputs_append ls ms

pub fits_gate : (ls : List Line) (k : Kind) (ps : List ℕ) → fits k (length ps) ≡ true → AllByRecursion (λ i. i < length ls) ps → Fits ls (Gate (gate_of k ps))
fits_gate ls k ps f h =
    let c = and_parts (leb (least k) (length ps)) (leb (length ps) (most k)) f in
    record {
      counted = (leb-true (least k) (length ps) c.0, leb-true (length ps) (most k) c.1);
      fed = λ p lt. All-get_or (λ i. i < length ls) ps p 0 lt h;
      numbered = λ e. absurd (both_ways false refl e);
    }

-- the pins found are lines, and their names are those asked for
pub resolved : (names : List (List ℕ)) (ns : List Named) (ls : List ℕ) → resolve names ns ≡ Ok ls → AllByRecursion (λ i. i < length names) ls × (map (λ i. get_or names i []) ls ≡ map bytes_at ns)
resolved names [] ls e = let z : [] ≡ ls = cc in subst (λ ls. AllByRecursion (λ i. i < length names) ls × (map (λ i. get_or names i []) ls ≡ [])) z (tt, refl)
resolved names (n ∷ ns) ls e =
    let a = bind_ok (ok_or (find names n.bytes) _) (λ l. bind (resolve names ns) (λ ls. Ok (l ∷ ls))) ls e in
    let b = bind_ok (resolve names ns) (λ ls. Ok (a.0 ∷ ls)) ls a.2 in
    let f = found_at a.0 names n.bytes (ok_or_ok (find names n.bytes) _ a.0 a.1) in
    let r = resolved names ns b.0 b.1 in
    let z : a.0 ∷ b.0 ≡ ls = (let y = b.2 in cc) in
    let x = f.1 in
    let y = r.1 in
    subst (λ ls. AllByRecursion (λ i. i < length names) ls × (map (λ i. get_or names i []) ls ≡ map bytes_at (n ∷ ns))) z ((f.0, r.0), cc)
