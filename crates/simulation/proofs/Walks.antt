-- One line more in the walk over a circuit's lines.
use Rattle.std.proofs.Common.{◌≡◌, ℕ, ◌+◌, ◌<◌, List, [], ◌∷◌, ◌++◌, length, get_or, drop, sym, ap, ◌∙◌}
use Rattle.std.proofs.lemmas.List.{at_drop_more}
use Rattle.circuit.specs.Machines.{Logic, Effect, value_at, stem_value, values_from}
use Rattle.circuit.specs.Shape.{blank}
use Rattle.circuit.specs.declared.lines.Line.{Line}

-- the values of what is left, one line on
pub values_step : {V : Type 0} (g : Logic V) (e : Effect V) (given : ℕ → V) (vs ws : List V) (ls : List Line) (i : ℕ) (v : V)
    → i < length ls → v ≡ stem_value g e given (value_at g vs) (length vs) (get_or ls i blank) → ws ≡ vs ++ v ∷ []
    → values_from g e given ws (drop (i + 1) ls) ≡ values_from g e given vs (drop i ls)
values_step g e given vs ws ls i v h new grown =
    ap (λ us. values_from g e given us (drop (i + 1) ls)) (grown ∙ ap (λ x. vs ++ x ∷ []) new)
    ∙ sym (at_drop_more (values_from g e given vs) ls i blank h)
