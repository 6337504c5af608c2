-- One output more of a word.
use Rattle.std.proofs.Common.{◌≡◌, ℕ, suc, ◌+◌, ◌*◌, ◌^◌, ◌<◌, ◌≤◌, Bool, true, false, cond, leb, List, [], ◌∷◌, ◌++◌, length, get_or, sym, ap, ◌∙◌, length-append, arith}
use mir.Val.{bool_byte}
use Rattle.std.proofs.lemmas.List.{get_or-map, append_assoc, length_push}
use Rattle.std.proofs.lemmas.Bool.{cond-true, le-leb}
use Rattle.std.proofs.Math.Nat.{pow-le-pow_right}
use Rattle.std.proofs.Math.Seq.{get_or-append_seam}
use Rattle.circuit.specs.Machines.{word_from, binary, value_at}
use Rattle.simulation.specs.Lanes.{seen}
use Rattle.simulation.proofs.Words.{word_low}

-- the word of the last outputs, one output more before them
pub word_step : (value : ℕ → Bool) (ks : List ℕ) (k w : ℕ) (t : Bool) → value k ≡ t → w ≡ word_from value ks → w * 2 + bool_byte t ≡ word_from value (k ∷ ks)
word_step value ks k w true at e = ap (λ b. w * 2 + cond b 1 0) (sym at) ∙ omega (arith, e)
word_step value ks k w false at e = ap (λ b. w * 2 + cond b 1 0) (sym at) ∙ omega (arith, e)

-- outputs that end in ks, with k before it
module _ (outs rest ks : List ℕ) (k : ℕ) (split : outs ≡ (rest ++ k ∷ []) ++ ks) where
  count : length outs ≡ suc (length rest + length ks)
  count = ap length split ∙ omega (arith, length-append (rest ++ k ∷ []) ks, length_push rest k)

  place : get_or outs (length rest) 0 ≡ k
  place = ap (λ xs. get_or xs (length rest) 0) (split ∙ append_assoc rest (k ∷ []) ks) ∙ get_or-append_seam rest k ks 0

  -- an output is one of the lines
  pub output_low : (n : ℕ) → ((j : ℕ) → j < length outs → get_or outs j 0 < n) → k < n
  output_low n shown = let lt : length rest < length outs = omega (arith, count) in omega (arith, place, shown (length rest) lt)

  -- the word of ks has room for one output more
  pub word_room : (value : ℕ → Bool) (w : ℕ) → length outs ≤ 63 → w ≡ word_from value ks → w < 2 ^ 62
  word_room value w few e =
      let le : length ks ≤ 62 = omega (arith, count) in
      let up : 2 ^ length ks ≤ 2 ^ 62 = pow-le-pow_right (omega arith) le in
      omega (arith, e, word_low value ks, up)

pub byte_low : (t : Bool) → bool_byte t ≤ 1
byte_low true = omega arith
byte_low false = omega arith

-- what `look` gave of an entry is the value seen there
pub look_at : {A : Type 0} (lane : A → ℕ → Bool) (count l k : ℕ) (xs : List A) (x : A) (t : Bool) → l ≤ count → k < length xs → x ≡ get_or xs k x
    → t ≡ lane x (cond (leb l count) l 0) → value_at binary (seen lane xs l) k ≡ t
look_at lane count l k xs x t le lt read e =
    get_or-map (λ y. lane y l) xs k x false lt ∙ ap (λ y. lane y l) (sym read) ∙ sym (e ∙ ap (lane x) (cond-true (leb l count) l 0 (le-leb l count le)))
