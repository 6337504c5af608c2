-- The entries of a batch, by its lanes and by its machines.
use Rattle.std.proofs.Common.{◌≡◌, ℕ, suc, ◌+◌, ◌<◌, ◌≤◌, true, false, cond, List, [], ◌∷◌, ◌++◌, map, length, get_or, drop, Some, None, sym, refl, ap, ◌∙◌, subst, ap₂, ⊎_elim, arith}
use lib.Bits.{bit_xor}
use Rattle.std.proofs.lemmas.List.{append_assoc, length-append, length_push, get_or_at, at_drop_more}
use Rattle.std.proofs.lemmas.Bool.{cases_Bool}
use Rattle.circuit.specs.Machines.{word}
use Rattle.circuit.specs.Plans.{Plan}
use Rattle.circuit.specs.declared.faults.Fault.{Fault}
use Rattle.simulation.specs.declared.listing.Listed.{Listed}
use Rattle.simulation.specs.Lanes.{machine_at, no_fault}
use Rattle.simulation.specs.Rows.{X, entry, live, filed}
use Rattle.simulation.proofs.Holding.{machine_of}

-- the fault after those of fs stands in the lane after theirs
machine_next : (fs gs : List Fault) (f : Fault) → machine_at (fs ++ f ∷ gs) (suc (length fs)) ≡ Some f
machine_next fs gs f =
    machine_of (fs ++ f ∷ gs) (length fs) (omega (arith, length-append fs (f ∷ gs))) ∙ ap Some (get_or_at fs f gs no_fault (length fs) refl)

module _ (p : Plan) (v : ℕ) (w : ℕ → ℕ) (count : ℕ) where
  entries_after : (fs : List Fault) (xs : List Listed) → length (fs ++ live xs) ≤ count
      → ((l : ℕ) → l ≤ count → w l ≡ word p (machine_at (fs ++ live xs) l) v) → filed w (length fs) xs ≡ map (entry p v) xs
  entries_after fs [] few same = refl
  entries_after fs (x ∷ xs) few same =
      ⊎_elim
      (λ (e : x.dropped ≡ true).
      let on : live (x ∷ xs) ≡ live xs = ap (λ b. cond b (live xs) (x.fault ∷ live xs)) e in
      let rest = entries_after fs xs (subst (λ gs. length (fs ++ gs) ≤ count) on few) (subst (λ gs. (l : ℕ) → l ≤ count → w l ≡ word p (machine_at (fs ++ gs) l) v) on same) in
      rw e (ap (λ ys. X ∷ ys) rest))
      (λ (e : x.dropped ≡ false).
      let f = x.fault in
      let on : live (x ∷ xs) ≡ x.fault ∷ live xs = ap (λ b. cond b (live xs) (x.fault ∷ live xs)) e in
      let more : fs ++ live (x ∷ xs) ≡ (fs ++ x.fault ∷ []) ++ live xs = ap (λ gs. fs ++ gs) on ∙ sym (append_assoc fs (f ∷ []) (live xs)) in
      let rest = entries_after (fs ++ f ∷ []) xs (subst (λ gs. length gs ≤ count) more few) (subst (λ gs. (l : ℕ) → l ≤ count → w l ≡ word p (machine_at gs l) v) more same) in
      let long : length (fs ++ x.fault ∷ []) ≡ suc (length fs) = omega (arith, length_push fs f) in
      let room : suc (length fs) ≤ count = omega (arith, ap length (ap (λ gs. fs ++ gs) on), length-append fs (f ∷ live xs)) in
      let bad : w (suc (length fs)) ≡ word p (Some x.fault) v = same (suc (length fs)) room ∙ ap (λ gs. word p (machine_at (fs ++ gs) (suc (length fs))) v) on ∙ ap (λ m. word p m v) (machine_next fs (live xs) f) in
      let good : w 0 ≡ word p None v = same 0 (omega arith) in
      rw e (ap₂ (λ a ys. a ∷ ys) (ap₂ bit_xor bad good) (ap (λ n. filed w n xs) (sym long) ∙ rest)))
      (cases_Bool x.dropped)

  -- where each lane has its machine's word, the entries filed are those of the faults
  pub entries_all : (xs : List Listed) → length (live xs) ≤ count → ((l : ℕ) → l ≤ count → w l ≡ word p (machine_at (live xs) l) v) → filed w 0 xs ≡ map (entry p v) xs
  entries_all xs few same = entries_after [] xs few same

-- what is left to file, at the first fault left
module _ (w : ℕ → ℕ) (l : ℕ) (xs : List Listed) (i : ℕ) (x : Listed) (h : i < length xs) where
  pub filed_dropped : (get_or xs i x).dropped ≡ true → filed w l (drop i xs) ≡ X ∷ filed w l (drop (i + 1) xs)
  filed_dropped e = at_drop_more (filed w l) xs i x h ∙ ap (λ b. cond b (X ∷ filed w l (drop (i + 1) xs)) (bit_xor (w (suc l)) (w 0) ∷ filed w (suc l) (drop (i + 1) xs))) e

  pub filed_live : (get_or xs i x).dropped ≡ false → filed w l (drop i xs) ≡ bit_xor (w (suc l)) (w 0) ∷ filed w (suc l) (drop (i + 1) xs)
  filed_live e = at_drop_more (filed w l) xs i x h ∙ ap (λ b. cond b (X ∷ filed w l (drop (i + 1) xs)) (bit_xor (w (suc l)) (w 0) ∷ filed w (suc l) (drop (i + 1) xs))) e
