-- Effects that agree at a circuit's own sites, and a fault at a site that it lacks.
use Rattle.std.proofs.Common.{◌≡◌, ℕ, suc, ◌+◌, ◌<◌, Bool, true, false, cond, ◌&&◌, eqb, List, [], ◌∷◌, ◌++◌, length, get_or, Some, None, sym, refl, ap, ◌∙◌, ap₂, ⊎_elim, zero-add, arith}
use Rattle.std.specs.List.{slice_get}
use Rattle.std.proofs.lemmas.List.{length_push}
use Rattle.std.proofs.lemmas.Option.{slice_get-get_or}
use Rattle.std.proofs.lemmas.Bool.{cases_eq, ne_eqb, ltb-false}
use Rattle.circuit.specs.Machines.{Logic, Effect, forced, pins_seen, stem_value, value_at, values_from, same_site, effect, binary, bit_of, word, word_from}
use Rattle.circuit.specs.Plans.{Plan, pins_at, has_site}
use Rattle.circuit.specs.Shape.{blank, pin_count}
use Rattle.circuit.specs.declared.faults.Site.{Site}
use Rattle.circuit.specs.declared.faults.Site.TheVariants.{Stem, Pin}
use Rattle.circuit.specs.declared.faults.Fault.{Fault}
use Rattle.circuit.specs.declared.lines.Line.{Line}
use Rattle.circuit.specs.declared.lines.Line.TheVariants.{Input, Gate}

module _ {V : Type 0} (g : Logic V) (e f : Effect V) (given : ℕ → V) where
  pins_agree : (seen : ℕ → V) (i q : ℕ) (ks : List ℕ) → ((p : ℕ) → p < length ks → e.pin i (q + p) ≡ f.pin i (q + p)) → pins_seen e seen i q ks ≡ pins_seen f seen i q ks
  pins_agree seen i q [] same = refl
  pins_agree seen i q (k ∷ ks) same =
      let first : q + 0 ≡ q = omega arith in
      let here : e.pin i q ≡ f.pin i q = ap (e.pin i) (sym first) ∙ same 0 (omega arith) ∙ ap (f.pin i) first in
      ap₂ (λ o vs. forced o (seen k) ∷ vs) here
      (pins_agree seen i (suc q) ks (λ p lt.
      let on : suc q + p ≡ q + suc p = omega arith in
      ap (e.pin i) on ∙ same (suc p) (omega arith) ∙ ap (f.pin i) (sym on)))

  stem_agree : (seen : ℕ → V) (i : ℕ) (l : Line) → e.stem i ≡ f.stem i → ((p : ℕ) → p < pin_count l → e.pin i p ≡ f.pin i p) → stem_value g e given seen i l ≡ stem_value g f given seen i l
  stem_agree seen i (Input j) stem pins = ap (λ o. forced o (given j)) stem
  stem_agree seen i (Gate x) stem pins =
      ap₂ (λ o vs. forced o (g.gate x.kind vs)) stem
      (pins_agree seen i 0 x.pins (λ p lt.
      let at : 0 + p ≡ p = omega arith in
      ap (e.pin i) at ∙ pins p lt ∙ ap (f.pin i) (sym at)))

  values_agree : (vs : List V) (ls : List Line) → ((i : ℕ) → i < length ls → e.stem (length vs + i) ≡ f.stem (length vs + i))
      → ((i p : ℕ) → i < length ls → p < pin_count (get_or ls i blank) → e.pin (length vs + i) p ≡ f.pin (length vs + i) p) → values_from g e given vs ls ≡ values_from g f given vs ls
  values_agree vs [] stem pins = refl
  values_agree vs (l ∷ ls) stem pins =
      let n = length vs in
      let first : length vs + 0 ≡ length vs = omega arith in
      let v = stem_value g e given (value_at g vs) n l in
      let same = stem_agree (value_at g vs) n l (ap e.stem (sym first) ∙ stem 0 (omega arith) ∙ ap f.stem first)
      (λ p lt. ap (λ k. e.pin k p) (sym first) ∙ pins 0 p (omega arith) lt ∙ ap (λ k. f.pin k p) first) in
      let next : (i : ℕ) → length (vs ++ stem_value g e given (value_at g vs) (length vs) l ∷ []) + i ≡ length vs + suc i = λ i. omega (arith, length_push vs v) in
      values_agree (vs ++ v ∷ []) ls
      (λ i lt. ap e.stem (next i) ∙ stem (suc i) (omega arith) ∙ ap f.stem (sym (next i)))
      (λ i p lt low. ap (λ k. e.pin k p) (next i) ∙ pins (suc i) p (omega arith) low ∙ ap (λ k. f.pin k p) (sym (next i)))
      ∙ ap (λ x. values_from g f given (vs ++ x ∷ []) ls) same

module _ (p : Plan) where
  not_stem : (s : Site) → has_site p s ≡ false → (i : ℕ) → i < length p.lines → same_site s (Stem i) ≡ false
  not_stem (Stem j) none i lt = ne_eqb j i (λ e. omega (arith, ltb-false j (length p.lines) none))
  not_stem (Pin j n) none i lt = refl

  not_pin : (s : Site) → has_site p s ≡ false → (i q : ℕ) → i < length p.lines → q < pin_count (get_or p.lines i blank) → same_site s (Pin i q) ≡ false
  not_pin (Stem j) none i q lt low = refl
  not_pin (Pin j n) none i q lt low =
      ⊎_elim
      (λ (at : j ≡ i).
      let high = ltb-false n (pins_at (slice_get p.lines j)) none in
      let has : pins_at (slice_get p.lines j) ≡ pin_count (get_or p.lines i blank) = ap (λ k. pins_at (slice_get p.lines k)) at ∙ ap pins_at (slice_get-get_or p.lines i blank lt) in
      and_right (eqb j i) (eqb n q) (ne_eqb n q (λ e. omega (arith, high, has))))
      (λ (off : j ≡ i → ⊥). ap (λ b. b && eqb n q) (ne_eqb j i off))
      (cases_eq j i)
    where
      and_right : (a b : Bool) → b ≡ false → (a && b) ≡ false
      and_right true b z = z
      and_right false b z = refl

  pub absent_word : (v : ℕ) (f : Fault) → has_site p f.site ≡ false → word p (Some f) v ≡ word p None v
  absent_word v f none =
      ap (λ vs. word_from (value_at binary vs) p.outputs)
      (values_agree binary (effect (Some f)) (effect None) (bit_of v) [] p.lines
      (λ i lt. ap (λ k. (effect (Some f)).stem k) (zero-add i) ∙ ap (λ b. cond b (Some f.stuck) None) (not_stem f.site none i lt))
      (λ i q lt low. ap (λ k. (effect (Some f)).pin k q) (zero-add i) ∙ ap (λ b. cond b (Some f.stuck) None) (not_pin f.site none i q lt low)))
