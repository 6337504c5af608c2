-- The last fault at a line, and one fault more in the chains.
use Rattle.std.proofs.Common.{◌≡◌, ℕ, zero, suc, ◌+◌, ◌<◌, ◌≤◌, List, [], ◌∷◌, ◌++◌, Option, Some, None, length, get_or, set, sym, refl, ap, ◌∙◌, ⊎_elim, add-one, length-append, arith}
use Rattle.std.proofs.lemmas.List.{get_or-set_same, get_or-set_other, get_or_append_left}
use Rattle.std.proofs.Math.Seq.{get_or-append_seam}
use Rattle.std.proofs.lemmas.Bool.{cases_eq, eq-eqb, ne_eqb}
use Rattle.circuit.specs.declared.faults.Fault.{Fault}
use Rattle.circuit.specs.Plans.{line_of}
use Rattle.simulation.specs.Lanes.{line_at, latest, at_line, left, no_fault}

module _ (fs : List Fault) (g : ℕ) where
  latest_hit : (n : ℕ) → line_at fs n ≡ g → latest fs g (suc n) ≡ Some n
  latest_hit n e = rw (eq-eqb (line_at fs n) g e)

  latest_miss : (n : ℕ) → (line_at fs n ≡ g → ⊥) → latest fs g (suc n) ≡ latest fs g n
  latest_miss n ne = rw (ne_eqb (line_at fs n) g ne)

  pub at_hit : (n : ℕ) → line_at fs n ≡ g → at_line fs g (suc n) ≡ (n + 1, get_or fs n no_fault) ∷ at_line fs g n
  at_hit n e = rw (eq-eqb (line_at fs n) g e)

  pub at_miss : (n : ℕ) → (line_at fs n ≡ g → ⊥) → at_line fs g (suc n) ≡ at_line fs g n
  at_miss n ne = rw (ne_eqb (line_at fs n) g ne)

  -- the fault found is one of those looked at, and sits at the line
  pub latest_found : (n i : ℕ) → latest fs g n ≡ Some i → (i < n) × (line_at fs i ≡ g)
  latest_found zero i e = cc
  latest_found (suc n) i e =
      ⊎_elim
      (λ (hit : line_at fs n ≡ g). let at : n ≡ i = cc (latest_hit n hit) in (omega arith, ap (line_at fs) (sym at) ∙ hit))
      (λ (miss : line_at fs n ≡ g → ⊥). let r = latest_found n i (sym (latest_miss n miss) ∙ e) in (omega (arith, r.0), r.1))
      (cases_eq (line_at fs n) g)

  -- the chain from the last fault at the line has all that sit there
  pub left_latest : (n : ℕ) → left fs (latest fs g n) ≡ at_line fs g n
  left_latest zero = refl
  left_latest (suc n) =
      ⊎_elim
      (λ (hit : line_at fs n ≡ g). ap (left fs) (latest_hit n hit) ∙ ap (λ k. (n + 1, get_or fs n no_fault) ∷ at_line fs k n) hit ∙ sym (at_hit n hit))
      (λ (miss : line_at fs n ≡ g → ⊥). ap (left fs) (latest_miss n miss) ∙ left_latest n ∙ sym (at_miss n miss))
      (cases_eq (line_at fs n) g)

latest_same : (fs gs : List Fault) (g n : ℕ) → ((i : ℕ) → i < n → line_at fs i ≡ line_at gs i) → latest fs g n ≡ latest gs g n
latest_same fs gs g zero same = refl
latest_same fs gs g (suc n) same =
    let r = latest_same fs gs g n (λ i h. same i (omega arith)) in
    let e = same n (omega arith) in
    ⊎_elim
    (λ hit. latest_hit fs g n hit ∙ sym (latest_hit gs g n (sym e ∙ hit)))
    (λ miss. latest_miss fs g n miss ∙ (r ∙ sym (latest_miss gs g n (λ hit. miss (e ∙ hit)))))
    (cases_eq (line_at fs n) g)

abbrev pub Tops : List (Option ℕ) → List Fault → Type 0
Tops heads fs = (g : ℕ) → g < 1024 → get_or heads g None ≡ latest fs g (length fs)

abbrev pub Nexts : List (Option ℕ) → List Fault → Type 0
Nexts links fs = (i : ℕ) → i < length fs → line_at fs i < 1024 → get_or links i None ≡ latest fs (line_at fs i) i

-- fault f comes last
module _ (fs : List Fault) (f : Fault) where
  longer : length (fs ++ f ∷ []) ≡ suc (length fs)
  longer = length-append fs (f ∷ []) ∙ add-one (length fs)

  line_old : (i : ℕ) → i < length fs → line_at (fs ++ f ∷ []) i ≡ line_at fs i
  line_old i h = ap (λ x. line_of x.site) (get_or_append_left fs (f ∷ []) no_fault i h)

  line_new : line_at (fs ++ f ∷ []) (length fs) ≡ line_of f.site
  line_new = ap (λ x. line_of x.site) (get_or-append_seam fs f [] no_fault)

  latest_old : (g m : ℕ) → m ≤ length fs → latest (fs ++ f ∷ []) g m ≡ latest fs g m
  latest_old g m le = latest_same (fs ++ f ∷ []) fs g m (λ i h. line_old i (omega arith))

  -- another line than the fault's
  top_other : (heads : List (Option ℕ)) → Tops heads fs → (g : ℕ) → g < 1024 → (line_of f.site ≡ g → ⊥) → get_or heads g None ≡ latest (fs ++ f ∷ []) g (length (fs ++ f ∷ []))
  top_other heads t g lt ne =
      t g lt ∙ sym (latest_old g (length fs) (omega arith)) ∙ sym (latest_miss (fs ++ f ∷ []) g (length fs) (λ e. ne (sym line_new ∙ e))) ∙ ap (latest (fs ++ f ∷ []) g) (sym longer)

  pub tops_in : (heads : List (Option ℕ)) → line_of f.site < length heads → Tops heads fs → Tops (set heads (line_of f.site) (Some (length fs))) (fs ++ f ∷ [])
  tops_in heads there t g lt =
      let k = line_of f.site in
      let n = length fs in
      ⊎_elim
      (λ (e : line_of f.site ≡ g).
      ap (λ x. get_or (set heads k (Some n)) x None) (sym e) ∙ get_or-set_same heads k (Some n) None there
      ∙ sym (latest_hit (fs ++ f ∷ []) g n (line_new ∙ e)) ∙ ap (latest (fs ++ f ∷ []) g) (sym longer))
      (λ (ne : line_of f.site ≡ g → ⊥). get_or-set_other heads k g (Some n) None (λ e. ne (sym e)) ∙ top_other heads t g lt ne)
      (cases_eq k g)

  pub tops_out : (heads : List (Option ℕ)) → 1024 ≤ line_of f.site → Tops heads fs → Tops heads (fs ++ f ∷ [])
  tops_out heads off t g lt = top_other heads t g lt (λ e. omega arith)

  nexts_old : (links : List (Option ℕ)) → Nexts links fs → (i : ℕ) → i < length fs → line_at (fs ++ f ∷ []) i < 1024 → get_or links i None ≡ latest (fs ++ f ∷ []) (line_at (fs ++ f ∷ []) i) i
  nexts_old links t i h lt =
      let e = line_old i h in
      t i h (omega arith) ∙ sym (latest_old (line_at fs i) i (omega arith)) ∙ ap (λ g. latest (fs ++ f ∷ []) g i) (sym e)

  pub nexts_in : (heads links : List (Option ℕ)) → length fs < length links → line_of f.site < 1024 → Tops heads fs → Nexts links fs → Nexts (set links (length fs) (get_or heads (line_of f.site) None)) (fs ++ f ∷ [])
  nexts_in heads links long there t old i h lt =
      let n = length fs in
      ⊎_elim
      (λ (e : i ≡ length fs).
      let g = line_of f.site in
      ap (λ x. get_or (set links n (get_or heads g None)) x None) e ∙ get_or-set_same links n (get_or heads g None) None long
      ∙ t g there ∙ sym (latest_old g n (omega arith)) ∙ ap (λ x. latest (fs ++ f ∷ []) x n) (sym line_new) ∙ ap (λ x. latest (fs ++ f ∷ []) (line_at (fs ++ f ∷ []) x) x) (sym e))
      (λ (ne : i ≡ length fs → ⊥). get_or-set_other links n i _ None ne ∙ nexts_old links old i (omega (arith, ne, longer)) lt)
      (cases_eq i n)

  pub nexts_out : (links : List (Option ℕ)) → 1024 ≤ line_of f.site → Nexts links fs → Nexts links (fs ++ f ∷ [])
  nexts_out links off old i h lt =
      ⊎_elim
      (λ (e : i ≡ length fs). absurd (omega (arith, line_new, ap (line_at (fs ++ f ∷ [])) e)))
      (λ (ne : i ≡ length fs → ⊥). nexts_old links old i (omega (arith, ne, longer)) lt)
      (cases_eq i (length fs))
