-- A gate's pins, one name on.
use Rattle.std.proofs.Common.{◌≡◌, ℕ, zero, suc, List, [], ◌++◌, length, get_or, Ok, Result, sym, refl, ap, ◌∙◌}
use Rattle.std.proofs.lemmas.List.{length-map}
use Rattle.circuit.specs.declared.refusals.Refusal.{Refusal}
use Rattle.netlist.proofs.Pushed.{resolved}
use Rattle.netlist.proofs.Said.{bytes_at}
use Rattle.netlist.specs.Tokens.{Tok, after}
use Rattle.texts.specs.Steps.{bind}
use Rattle.netlist.specs.Statements.{Named, labels}
use Rattle.netlist.specs.Driving.{resolve}

-- lines already found, and what the rest gives
abbrev pub prepend : List ℕ → Result (List ℕ) Refusal → Result (List ℕ) Refusal
prepend xs r = bind r (λ ls. Ok (xs ++ ls))

pub labels_length : (n : ℕ) (ts : List Tok) → length (labels n ts) ≡ n
labels_length zero ts = refl
labels_length (suc n) ts = ap suc (labels_length n (after (after ts)))

-- as many lines are found as there are names
pub resolve_length : (names : List (List ℕ)) (ns : List Named) (ls : List ℕ) → resolve names ns ≡ Ok ls → length ls ≡ length ns
resolve_length names ns ls e = sym (length-map ls (λ i. get_or names i [])) ∙ ap length (resolved names ns ls e).1 ∙ length-map ns bytes_at
