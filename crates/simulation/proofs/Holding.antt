-- The faults at a line, one after the other: each lane holds what its machine forces.
use Rattle.std.proofs.Common.{◌≡◌, ℕ, zero, suc, ◌<◌, ◌≤◌, Bool, true, false, cond, ◌&&◌, eqb, List, [], ◌∷◌, map, length, get_or, take, Some, None, sym, refl, ap, ◌∙◌, ⊎_elim, add-one, arith}
use Rattle.std.proofs.lemmas.List.{get_or-map, get_or_past, get_or-take, length-map, length-take-le}
use Rattle.std.proofs.Math.Seq.{take-length}
use Rattle.std.proofs.lemmas.Bool.{cases_eq, cases_lt, eq-eqb, ne_eqb, eqb-true, and_parts, cases_Bool, both_ways}
use Rattle.circuit.specs.Machines.{same_site, forces, forced}
use Rattle.circuit.specs.declared.faults.Site.{Site}
use Rattle.circuit.specs.declared.faults.Site.TheVariants.{Stem, Pin}
use Rattle.circuit.specs.declared.faults.Fault.{Fault}
use Rattle.circuit.specs.Plans.{line_of}
use Rattle.simulation.specs.Lanes.{machine_at, line_at, latest, at_line, left, no_fault}
use Rattle.simulation.proofs.Chains.{at_hit, at_miss, left_latest}

-- lane i + 1 of a batch has fault i, and a lane past the last none
pub machine_of : (fs : List Fault) (i : ℕ) → i < length fs → machine_at fs (suc i) ≡ Some (get_or fs i no_fault)
machine_of fs i h = get_or-map Some fs i no_fault None h

pub machine_past : (fs : List Fault) (i : ℕ) → length fs ≤ i → machine_at fs (suc i) ≡ None
machine_past fs i h = get_or_past (map Some fs) i None (omega (arith, length-map fs Some))

-- one site has one line
site_line : (a b : Site) → same_site a b ≡ true → line_of a ≡ line_of b
site_line (Stem i) (Stem j) e = eqb-true i j e
site_line (Stem i) (Pin j q) e = absurd (both_ways false refl e)
site_line (Pin i p) (Stem j) e = absurd (both_ways false refl e)
site_line (Pin i p) (Pin j q) e = eqb-true i j (and_parts _ _ e).0

-- a fault at another line forces nothing at the site
pub forces_other : (f : Fault) (s : Site) → (line_of f.site ≡ line_of s → ⊥) → forces (Some f) s ≡ None
forces_other f s ne =
    ⊎_elim (λ (e : same_site f.site s ≡ true). absurd (ne (site_line f.site s e))) (λ (e : same_site f.site s ≡ false). rw e) (cases_Bool (same_site f.site s))

-- a lane's value after the faults, each in its lane, that sit at the site
abbrev pub stuck_by : Site → ℕ → Bool → List (ℕ × Fault) → Bool
stuck_by s k v [] = v
stuck_by s k v (x ∷ xs) = stuck_by s k (cond (eqb k x.0 && same_site x.1.site s) x.1.stuck v) xs

module _ (fs : List Fault) (s : Site) where
  -- one fault more changes its own lane's machine alone
  same_machine : (n k : ℕ) → n < length fs → (k ≡ suc n → ⊥) → machine_at (take n fs) k ≡ machine_at (take (suc n) fs) k
  same_machine n zero lt ne = refl
  same_machine n (suc i) lt ne =
      let short = length-take-le n fs (omega arith) in
      let long = length-take-le (suc n) fs (omega arith) in
      ⊎_elim
      (λ (low : i < n).
      machine_of (take n fs) i (omega arith) ∙ ap Some (get_or-take n fs i no_fault low)
      ∙ sym (machine_of (take (suc n) fs) i (omega arith) ∙ ap Some (get_or-take (suc n) fs i no_fault (omega arith))))
      (λ (high : n ≤ i). machine_past (take n fs) i (omega arith) ∙ sym (machine_past (take (suc n) fs) i (omega (arith, ne))))
      (cases_lt i n)

  none_yet : (n : ℕ) → n < length fs → machine_at (take n fs) (suc n) ≡ None
  none_yet n lt = machine_past (take n fs) n (omega (arith, length-take-le n fs (omega arith)))

  own : (n : ℕ) → n < length fs → machine_at (take (suc n) fs) (suc n) ≡ Some (get_or fs n no_fault)
  own n lt = machine_of (take (suc n) fs) n (omega (arith, length-take-le (suc n) fs (omega arith))) ∙ ap Some (get_or-take (suc n) fs n no_fault (omega arith))

  pick : (x y z : Bool) → cond x y z ≡ forced (cond x (Some y) None) z
  pick true y z = refl
  pick false y z = refl

  -- the first faults at the site's line stick the site as the lane's machine of them does
  stuck_some : (n : ℕ) → n ≤ length fs → (k : ℕ) (v : Bool) → stuck_by s k v (at_line fs (line_of s) n) ≡ forced (forces (machine_at (take n fs) k) s) v
  stuck_some zero le zero v = refl
  stuck_some zero le (suc k) v = refl
  stuck_some (suc n) le k v =
      let f = get_or fs n no_fault in
      let stick : Bool → Bool = λ b. cond (b && same_site (get_or fs n no_fault).site s) (get_or fs n no_fault).stuck v in
      ⊎_elim
      (λ (hit : line_at fs n ≡ line_of s).
      ap (stuck_by s k v) (at_hit fs (line_of s) n hit) ∙ ap (λ j. stuck_by s k (stick (eqb k j)) (at_line fs (line_of s) n)) (add-one n) ∙ stuck_some n (omega arith) k (stick (eqb k (suc n)))
      ∙ ⊎_elim
      (λ (at : k ≡ suc n).
      ap (λ b. forced (forces (machine_at (take n fs) k) s) (stick b)) (eq-eqb k (suc n) at)
      ∙ ap (λ j. forced (forces (machine_at (take n fs) j) s) (stick true)) at ∙ ap (λ m. forced (forces m s) (stick true)) (none_yet n (omega arith))
      ∙ pick (same_site f.site s) f.stuck v ∙ ap (λ m. forced (forces m s) v) (sym (own n (omega arith)))
      ∙ ap (λ j. forced (forces (machine_at (take (suc n) fs) j) s) v) (sym at))
      (λ (off : k ≡ suc n → ⊥).
      ap (λ b. forced (forces (machine_at (take n fs) k) s) (stick b)) (ne_eqb k (suc n) off)
      ∙ ap (λ m. forced (forces m s) v) (same_machine n k (omega arith) off))
      (cases_eq k (suc n)))
      (λ (miss : line_at fs n ≡ line_of s → ⊥).
      ap (stuck_by s k v) (at_miss fs (line_of s) n miss) ∙ stuck_some n (omega arith) k v
      ∙ ⊎_elim
      (λ (at : k ≡ suc n).
      ap (λ j. forced (forces (machine_at (take n fs) j) s) v) at ∙ ap (λ m. forced (forces m s) v) (none_yet n (omega arith))
      ∙ ap (λ o. forced o v) (sym (forces_other f s miss)) ∙ ap (λ m. forced (forces m s) v) (sym (own n (omega arith)))
      ∙ ap (λ j. forced (forces (machine_at (take (suc n) fs) j) s) v) (sym at))
      (λ (off : k ≡ suc n → ⊥). ap (λ m. forced (forces m s) v) (same_machine n k (omega arith) off))
      (cases_eq k (suc n)))
      (cases_eq (line_at fs n) (line_of s))

  -- the faults at the site's line stick the site as the lane's machine does
  pub stuck_all : (k : ℕ) (v : Bool) → stuck_by s k v (at_line fs (line_of s) (length fs)) ≡ forced (forces (machine_at fs k) s) v
  stuck_all k v = stuck_some (length fs) (omega arith) k v ∙ ap (λ gs. forced (forces (machine_at gs k) s) v) (take-length fs)

  -- where no fault of the batch sits at the site's line, no machine forces the site
  pub none_held : latest fs (line_of s) (length fs) ≡ None → (k : ℕ) (v : Bool) → v ≡ forced (forces (machine_at fs k) s) v
  none_held none k v = ap (stuck_by s k v) (sym (ap (left fs) none) ∙ left_latest fs (line_of s) (length fs)) ∙ stuck_all k v
