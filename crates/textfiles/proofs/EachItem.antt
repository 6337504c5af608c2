-- Items that are read one after another.
use Rattle.std.proofs.Common.{◌≡◌, List, [], ◌∷◌, ◌++◌, IfOk, Ok, Err, Result, sym, ap, ◌∙◌, subst}
use Rattle.std.proofs.lemmas.List.{append_assoc, append-nil}
use Rattle.textfiles.specs.Cursors.{Spot}
use Rattle.texts.specs.Steps.{bind}
use Rattle.textfiles.specs.Flaws.{Answers}
use Rattle.textfiles.specs.Items.{each, Each, Accepts}
use Rattle.textfiles.specs.declared.flaws.Flaw.{Flaw}
use Rattle.textfiles.specs.declared.flaws.ReadError.{ReadError}
use Rattle.textfiles.specs.declared.flaws.ReadError.TheVariants.{Memory, Flawed}
use Rattle.texts.proofs.Risen.{bind_ok}

module _ {X : Type 0} (f : Spot → Result X Flaw) (R : Spot → X → Type 0) where
  each_of : ((s : Spot) (x : X) → R s x → f s ≡ Ok x) → (ys : List X) (ss : List Spot) (xs : List X) → Each R ss xs → each f ys ss ≡ Ok (ys ++ xs)
  each_of h ys [] [] r = ap (λ l. Ok l) (sym (append-nil ys))
  each_of h ys [] (x ∷ xs) r = absurd r
  each_of h ys (s ∷ ss) [] r = absurd r
  each_of h ys (s ∷ ss) (x ∷ xs) r =
      ap (λ a. bind a (λ y. each f (ys ++ y ∷ []) ss)) (h s x r.0) ∙ each_of h (ys ++ x ∷ []) ss xs r.1 ∙ ap (λ l. Ok l) (append_assoc ys (x ∷ []) xs)

  of_each : ((s : Spot) (x : X) → f s ≡ Ok x → R s x) → (ys : List X) (ss : List Spot) (zs : List X) → each f ys ss ≡ Ok zs → (xs : List X) × (zs ≡ ys ++ xs) × Each R ss xs
  of_each h ys [] zs e = let same : zs ≡ ys = cc in ([], same ∙ sym (append-nil ys), tt)
  of_each h ys (s ∷ ss) zs e =
      let b = bind_ok (f s) (λ y. each f (ys ++ y ∷ []) ss) zs e in
      let r = of_each h (ys ++ b.0 ∷ []) ss zs b.2 in
      (b.0 ∷ r.0, r.1 ∙ append_assoc ys (b.0 ∷ []) r.0, (h s b.0 b.1, r.2))

  all_read : ((s : Spot) (x : X) → f s ≡ Ok x → R s x) → {V : Type 0} (view : V → List X) (ss : List Spot) (r : Result V ReadError) → Answers view r (each f [] ss) → IfOk r (λ v. Each R ss (view v))
  all_read h view ss (Ok v) a = let q = of_each h [] ss (view v) (sym a) in subst (λ (l : List X). Each R ss l) (sym q.1) q.2
  all_read h view ss (Err Memory) a = tt
  all_read h view ss (Err (Flawed w)) a = tt

  pub accepts : ((s : Spot) (x : X) → R s x → f s ≡ Ok x) → ((s : Spot) (x : X) → f s ≡ Ok x → R s x) → {V : Type 0} (view : V → List X) (ss : List Spot) (r : Result V ReadError) → Answers view r (each f [] ss) → Accepts view R ss r
  accepts from to view ss r a =
      record {
        accepts = λ xs h. subst (λ (w : Result (List X) Flaw). Answers view r w) (each_of from [] ss xs h) a;
        accepted = all_read to view ss r a;
      }
