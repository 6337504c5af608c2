-- The longest front that passes.
use Rattle.std.proofs.Common.{◌≡◌, ℕ, suc, Bool, true, false, List, [], ◌∷◌, ◌++◌, length, get_or, take, refl, ap, ◌∙◌, one-add}
use Rattle.std.proofs.lemmas.Bool.{cond-true, cond-false, cond_both}
use Rattle.std.specs.List.{prefix_len, AllByRecursion}

-- a front that passes whole, before what does not pass
pub run_front : (p : ℕ → Bool) (cs bs : List ℕ) → AllByRecursion (λ b. p b ≡ true) cs → prefix_len p bs ≡ 0 → prefix_len p (cs ++ bs) ≡ length cs
run_front p [] bs h stop = stop
run_front p (c ∷ cs) bs h stop = cond-true _ _ _ h.0 ∙ one-add _ ∙ ap suc (run_front p cs bs h.1 stop)

pub run_none : (p : ℕ → Bool) (bs : List ℕ) → p (get_or bs 0 0) ≡ false → prefix_len p bs ≡ 0
run_none p [] h = refl
run_none p (b ∷ bs) h = cond-false _ _ _ h

-- all of it passes
pub run_all : (p : ℕ → Bool) (bs : List ℕ) → AllByRecursion (λ b. p b ≡ true) (take (prefix_len p bs) bs)
run_all p [] = tt
run_all p (b ∷ bs) = cond_both (p b) _ _ (λ n. AllByRecursion (λ b. p b ≡ true) (take n (b ∷ bs))) (λ h. rw one-add (h, run_all p bs)) (λ h. tt)
