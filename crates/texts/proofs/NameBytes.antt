-- A byte of a name is no other byte.
use Rattle.std.proofs.Common.{◌≡◌, ℕ, Bool, true, false, eqb, refl, ap, ◌∙◌}
use Rattle.std.proofs.lemmas.Bool.{both_ways, ne_eqb, or_from}
use Rattle.texts.specs.Bytes.{name_byte, space_byte}

pub differs : (p : ℕ → Bool) (b c : ℕ) → p b ≡ true → p c ≡ false → eqb b c ≡ false
differs p b c h n = ne_eqb b c (λ e. both_ways (p b) (ap p e ∙ n) h)

pub name_no_space : (b : ℕ) → name_byte b ≡ true → space_byte b ≡ false
name_no_space b h = or_from _ _ (differs name_byte b 32 h refl) (or_from _ _ (differs name_byte b 9 h refl) (differs name_byte b 13 h refl))
