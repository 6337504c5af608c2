-- The stems' values are what the rule gives from the values themselves, in any logic and under any effect.
use Rattle.std.proofs.Common.{◌≡◌, ℕ, zero, suc, ◌+◌, ◌<◌, List, [], ◌∷◌, ◌++◌, length, get_or, sym, refl, ap, ◌∙◌, ap₂, add-zero, zero-add, arith}
use Rattle.std.proofs.lemmas.List.{get_or_append_left, get_or_push, length_push}
use Rattle.circuit.specs.Machines.{Logic, Effect, forced, pins_seen, stem_value, value_at, values_from, values, Settled}
use Rattle.circuit.specs.Shape.{blank, pin_count, pin_from, Fed}
use Rattle.circuit.specs.declared.lines.Line.{Line}
use Rattle.circuit.specs.declared.lines.Line.TheVariants.{Input, Gate}

module _ {V : Type 0} (g : Logic V) (e : Effect V) (given : ℕ → V) where
  pins_same : (f h : ℕ → V) (i p : ℕ) (ks : List ℕ) → ((q : ℕ) → q < length ks → f (get_or ks q 0) ≡ h (get_or ks q 0)) → pins_seen e f i p ks ≡ pins_seen e h i p ks
  pins_same f h i p [] same = refl
  pins_same f h i p (k ∷ ks) same =
      ap₂ (λ v vs. forced (e.pin i p) v ∷ vs) (same 0 (omega arith)) (pins_same f h i (suc p) ks (λ q lt. same (suc q) (omega arith)))

  -- where the lines that feed a line's pins have the same values, its stem has one value
  stem_same : (f h : ℕ → V) (i : ℕ) (l : Line) → ((p : ℕ) → p < pin_count l → f (pin_from l p) ≡ h (pin_from l p)) → stem_value g e given f i l ≡ stem_value g e given h i l
  stem_same f h i (Input j) same = refl
  stem_same f h i (Gate x) same =
      ap (λ vs. forced (e.stem i) (g.gate x.kind vs))
      (pins_same f h i 0 x.pins same)

  -- one line's value, where vs has those of the lines before
  abbrev next : List V → Line → V
  next vs l = stem_value g e given (value_at g vs) (length vs) l

  values_keep : (vs : List V) (ls : List Line) (k : ℕ) → k < length vs → value_at g (values_from g e given vs ls) k ≡ value_at g vs k
  values_keep vs [] k h = refl
  values_keep vs (l ∷ ls) k h =
      values_keep (vs ++ next vs l ∷ []) ls k (omega (arith, length_push vs (next vs l))) ∙ get_or_append_left vs (next vs l ∷ []) g.none k h

  values_length : (vs : List V) (ls : List Line) → length (values_from g e given vs ls) ≡ length vs + length ls
  values_length vs [] = omega arith
  values_length vs (l ∷ ls) = omega (arith, values_length (vs ++ next vs l ∷ []) ls, length_push vs (next vs l))

  values_right : (vs : List V) (ls : List Line) → ((i p : ℕ) → i < length ls → p < pin_count (get_or ls i blank) → pin_from (get_or ls i blank) p < length vs + i)
      → (i : ℕ) → i < length ls → value_at g (values_from g e given vs ls) (length vs + i) ≡ stem_value g e given (value_at g (values_from g e given vs ls)) (length vs + i) (get_or ls i blank)
  values_right vs [] fed i h = absurd (omega arith)
  values_right vs (l ∷ ls) fed zero h =
      let v = next vs l in
      rw add-zero
      (values_keep (vs ++ v ∷ []) ls (length vs) (omega (arith, length_push vs v))
      ∙ get_or_push vs v g.none (length vs) refl
      ∙ stem_same (value_at g vs) (value_at g (values_from g e given vs (l ∷ ls))) (length vs) l (λ p b. sym (values_keep vs (l ∷ ls) (pin_from l p) (omega (arith, fed 0 p h b)))))
  values_right vs (l ∷ ls) fed (suc i) h =
      let v = next vs l in
      let us = values_from g e given vs (l ∷ ls) in
      let on : length vs + suc i ≡ length (vs ++ next vs l ∷ []) + i = omega (arith, length_push vs v) in
      ap (value_at g us) on
      ∙ values_right (vs ++ v ∷ []) ls (λ j p b q. omega (arith, length_push vs v, fed (suc j) p (omega arith) q)) i (omega arith)
      ∙ ap (λ n. stem_value g e given (value_at g us) n (get_or ls i blank)) (sym on)

  pub settle : (ls : List Line) → Fed ls → Settled g e given ls (values g e given ls)
  settle ls fed =
      record {
        one_each = omega (arith, values_length [] ls);
        by_rule = λ i h.
            ap (value_at g (values g e given ls)) (sym (zero-add i)) ∙ values_right [] ls (λ j p b q. omega (arith, fed j p b q)) i h
            ∙ ap (λ n. stem_value g e given (value_at g (values g e given ls)) n (get_or ls i blank)) (zero-add i);
      }
