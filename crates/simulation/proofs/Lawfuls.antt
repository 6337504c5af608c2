-- The laws of a vector.
use Rattle.std.proofs.Common.{◌≡◌, ℕ, ◌+◌, ◌-◌, ◌^◌, ◌<◌, ◌≤◌, true, false, cond, length, Some, None, sym, ap, ◌∙◌, subst, ⊎_elim, arith}
use lib.Bits.{bit_xor, xor_lt, xor_self}
use Rattle.std.proofs.lemmas.Bool.{cases_Bool}
use Rattle.std.proofs.Math.Nat.{pow-le-pow_right}
use Rattle.circuit.specs.Machines.{Machine, binary, effect, bit_of, value_at, stems, word, fail_word}
use Rattle.circuit.specs.Plans.{Plan}
use Rattle.circuit.specs.Shape.{Fed, inputs_in}
use Rattle.circuit.specs.declared.faults.Fault.{Fault}
use Rattle.simulation.specs.declared.listing.Listed.{Listed}
use Rattle.simulation.specs.Laws.{Lawful}
use Rattle.simulation.specs.Rows.{X, entry}
use Rattle.simulation.proofs.Absent.{absent_word}
use Rattle.simulation.proofs.Settling.{settle}
use Rattle.simulation.proofs.Strays.{lowest_some, lowest_clear}
use Rattle.simulation.proofs.Words.{word_low, xor_cancel}

module _ (p : Plan) (v : ℕ) (few : length p.outputs ≤ 63) where
  low : (m : Machine) → word p m v < 2 ^ 63
  low m =
      let up : 2 ^ length p.outputs ≤ 2 ^ 63 = pow-le-pow_right (omega arith) few in
      omega (arith, word_low (value_at binary (stems m v p.lines)) p.outputs, up)

  fail_low : (f : Fault) → fail_word p f v < 2 ^ 63
  fail_low f = xor_lt 63 (word p (Some f) v) (word p None v) (low (Some f)) (low None)

  only_dropped : (x : Listed) → entry p v x ≡ X → x.dropped ≡ true
  only_dropped x e =
      ⊎_elim (λ (yes : x.dropped ≡ true). yes)
      (λ (no : x.dropped ≡ false). absurd (omega (arith, fail_low x.fault, sym (ap (λ b. cond b X (fail_word p x.fault v)) no) ∙ e)))
      (cases_Bool x.dropped)

  pub lawful : Fed p.lines → inputs_in p.lines ≤ 64 → v < 2 ^ 64 → Lawful p v
  lawful fed narrow fits =
      let good = word p None v in
      record {
        settled = λ m. settle binary (effect m) (bit_of v) p.lines fed;
        below = fail_low;
        marked = only_dropped;
        detected = λ f some same. some (ap (λ w. bit_xor w good) same ∙ xor_self good);
        missed = λ f none. xor_cancel (word p (Some f) v) good good (none ∙ sym (xor_self good));
        apart = λ f g off same. off (ap (λ w. bit_xor w good) same);
        alike = λ f g same. xor_cancel (word p (Some f) v) (word p (Some g) v) good same;
        absent = absent_word p v;
        refused = λ j e. lowest_some (64 - inputs_in p.lines) (inputs_in p.lines) v j e;
        taken = λ e.
            let whole : 64 ≡ inputs_in p.lines + (64 - inputs_in p.lines) = omega arith in
            lowest_clear (64 - inputs_in p.lines) (inputs_in p.lines) v (subst (λ k. v < 2 ^ k) whole fits) e;
      }
