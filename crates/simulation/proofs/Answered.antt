-- The answer for one machine, which is that for a list of its fault alone.
use Rattle.std.proofs.Common.{◌≡◌, ℕ, false, List, [], ◌∷◌, ◌++◌, map, length, get_or, drop, Option, MatchOption, Some, None, Ok, Err, Result, refl, sym, ap, ◌∙◌, ap₂}
use lib.Bits.{bit_xor}
use Rattle.std.specs.Option.{IsSomeAnd}
use Rattle.circuit.specs.Machines.{Machine, word, fail_word}
use Rattle.circuit.specs.Plans.{Plan}
use Rattle.circuit.specs.declared.faults.Fault.{Fault}
use Rattle.simulation.specs.declared.listing.Listed.{Listed}
use Rattle.simulation.specs.declared.refusals.Unfit.{Unfit}
use Rattle.simulation.specs.Checks.{checks, answered, after}
use Rattle.simulation.specs.Rows.{entry, live, only}
use Rattle.simulation.proofs.Strays.{clash}
use Rattle.simulation.proofs.Words.{xor_back}

-- an answer was granted
granted : {A : Type 0} (r : Result Unit Unfit) (a b : A) → Ok a ≡ answered r b → (r ≡ Ok tt) × (a ≡ b)
granted (Ok tt) a b e = (refl, cc)
granted (Err x) a b e = clash (cc)

-- a machine's fault, listed alone
abbrev pub alone : Machine → List Listed
alone None = []
alone (Some f) = record { fault = f; dropped = false } ∷ []

pub live_alone : (m : Machine) → live (alone m) ≡ only m
live_alone None = refl
live_alone (Some f) = refl

-- the one entry, told apart from the fault-free word
pub alone_word : (p : Plan) (v n good : ℕ) (row : List ℕ) (m : Machine)
    → Ok good ≡ answered (checks p (length (alone m)) v n 1) (word p None v)
    → row ≡ after (checks p (length (alone m)) v n 1) (map (entry p v) (alone m) ++ drop (length (alone m)) (0 ∷ [])) (0 ∷ [])
    → Ok (bit_xor (get_or row 0 0) good) ≡ answered (checks p 0 v n 0) (word p m v)
alone_word p v n good row None told filed =
    let open' = granted (checks p 0 v n 1) good (word p None v) told in
    ap₂ (λ r w. Ok (bit_xor (get_or r 0 0) w)) (filed ∙ ap (λ r. after r (0 ∷ []) (0 ∷ [])) open'.0) open'.1
    ∙ ap (λ r. answered r (word p None v)) (sym open'.0)
alone_word p v n good row (Some f) told filed =
    let open' = granted (checks p 1 v n 1) good (word p None v) told in
    ap₂ (λ r w. Ok (bit_xor (get_or r 0 0) w)) (filed ∙ ap (λ r. after r (fail_word p f v ∷ []) (0 ∷ [])) open'.0) open'.1
    ∙ ap Ok (xor_back (word p (Some f) v) (word p None v))
    ∙ ap (λ r. answered r (word p (Some f) v)) (sym open'.0)

pub alone_is : {P : Fault → Listed → Type 0} (m : Machine) (o : Option Listed) (xs : List Listed)
    → ((f : Fault) (x : Listed) → P f x → x ≡ record { fault = f; dropped = false })
    → MatchOption m (o ≡ None) (λ f. IsSomeAnd o (P f)) → MatchOption o (xs ≡ []) (λ x. xs ≡ x ∷ []) → xs ≡ alone m
alone_is None None xs told h e = e
alone_is None (Some x) xs told h e = clash (cc)
alone_is (Some f) None xs told h e = absurd h
alone_is (Some f) (Some x) xs told h e = e ∙ ap (λ y. y ∷ []) (told f x h)
