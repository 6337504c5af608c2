-- The tokens of a line are the words that its bytes spell.
use Rattle.std.proofs.Common.{◌≡◌, ℕ, zero, suc, Bool, true, false, cond, eqb, List, [], ◌∷◌, ◌++◌, map, length, take, drop, sym, refl, ap, ◌∙◌, subst, one-add, arith}
use Rattle.std.specs.List.{prefix_len, AllByRecursion}
use Rattle.std.proofs.lemmas.List.{take_at, drop_at, take-append-drop}
use Rattle.std.proofs.lemmas.Bool.{cond_both, both_ways, eqb-true}
use Rattle.texts.specs.Bytes.{name_byte, space_byte}
use Rattle.netlist.specs.Tokens.{Tok, Word, name, open_sign, close_sign, comma, equals, stray, end, spelling, sign_word, first_word, is_end, words}
use Rattle.netlist.specs.Grammar.{Written, Apart, begins_name, Spells, nothing, comment, separator, word}
use Rattle.netlist.proofs.Gaps.{words_skip, not_end}
use Rattle.texts.proofs.Fronts.{run_front, run_all}
use Rattle.texts.proofs.NameBytes.{differs, name_no_space}

abbrev pub what : Tok → Word
what t = t.word

-- what the tokens say
abbrev pub said : List Tok → List Word
said ts = map what ts

-- a word that may stand in a statement
abbrev pub Plain : Word → Type 0
Plain (name bs) = Unit {0}
Plain open_sign = Unit {0}
Plain close_sign = Unit {0}
Plain comma = Unit {0}
Plain equals = Unit {0}
Plain (stray b) = ⊥
Plain end = ⊥

space_no_hash : (b : ℕ) → space_byte b ≡ true → eqb b 35 ≡ false
space_no_hash b h = differs space_byte b 35 h refl

name_no_hash : (b : ℕ) → name_byte b ≡ true → eqb b 35 ≡ false
name_no_hash b h = differs name_byte b 35 h refl

no_name : (bs : List ℕ) → begins_name bs ≡ false → prefix_len name_byte bs ≡ 0
no_name [] a = refl
no_name (b ∷ bs) a = rw a

run_ends : (bs : List ℕ) → begins_name (drop (prefix_len name_byte bs) bs) ≡ false
run_ends [] = refl
run_ends (b ∷ bs) = cond_both (name_byte b) _ _ (λ n. begins_name (drop n (b ∷ bs)) ≡ false) (λ h. rw one-add (run_ends bs)) (λ h. h)

module _ (l e : ℕ) where
  one_word : (w : Word) (bs : List ℕ) → Written w → Apart w bs → said (words l e 0 (spelling w ++ bs)) ≡ w ∷ said (words l e 0 bs)
  one_word (name []) bs w a = absurd (omega arith)
  one_word (name (c ∷ cs)) bs w a =
      let t = w.1.0 in
      let h = name_no_hash c t in
      let s = name_no_space c t in
      let r = run_front name_byte cs bs w.1.1 (no_name bs a) in
      rw (h, s, t, r, take_at cs bs (length cs) refl, words_skip l e (length cs) (cs ++ bs), drop_at cs bs (length cs) refl)
  one_word open_sign bs w a = refl
  one_word close_sign bs w a = refl
  one_word comma bs w a = refl
  one_word equals bs w a = refl
  one_word (stray b) bs w a = absurd w
  one_word end bs w a = absurd w

  pub words_spelt : {bs : List ℕ} {ws : List Word} → Spells bs ws → said (words l e 0 bs) ≡ ws ++ end ∷ []
  words_spelt nothing = refl
  words_spelt (comment bs) = refl
  words_spelt (separator {b} {bs} {ws} h s) = let n = space_no_hash b h in rw (n, h) (words_spelt s)
  words_spelt (word {w} {bs} {ws} h a s) = one_word w bs h a ∙ ap (λ us. w ∷ us) (words_spelt s)

only_end : (ws : List Word) → AllByRecursion Plain ws → end ∷ [] ≡ ws ++ end ∷ [] → [] ≡ ws
only_end [] h q = refl
only_end (w ∷ ws) h q = let z : end ≡ w = cc in absurd (subst Plain (sym z) h.0)

-- how many of bs go on with the first word
abbrev name_rest : ℕ → List ℕ → ℕ
name_rest b bs = cond (name_byte b) (prefix_len name_byte bs) 0

module _ (b : ℕ) (bs : List ℕ) (ws : List Word) where
  abbrev Front : Word → Type 0
  Front w = Plain w → Spells (b ∷ bs) (w ∷ ws)

  sign_at : (w : Word) (c : ℕ) → Spells (c ∷ bs) (w ∷ ws) → eqb b c ≡ true → Front w
  sign_at w c s t h = subst (λ x. Spells (x ∷ bs) (w ∷ ws)) (sym (eqb-true b c t)) s

  sign_spells : Spells bs ws → Front (sign_word b)
  sign_spells s =
      cond_both (eqb b 40) _ _ Front (sign_at open_sign 40 (word tt tt s))
      (λ _. cond_both (eqb b 41) _ _ Front (sign_at close_sign 41 (word tt tt s))
      (λ _. cond_both (eqb b 44) _ _ Front (sign_at comma 44 (word tt tt s))
      (λ _. cond_both (eqb b 61) _ _ Front (sign_at equals 61 (word tt tt s)) (λ _ h. absurd h))))

  name_spells : name_byte b ≡ true → Spells (drop (prefix_len name_byte bs) bs) ws → Front (name (b ∷ take (prefix_len name_byte bs) bs))
  name_spells t s h =
      let n : ℕ = prefix_len name_byte bs in
      subst (λ xs. Spells (b ∷ xs) (name (b ∷ take n bs) ∷ ws)) (take-append-drop n bs)
      (word {w = name (b ∷ take n bs)} (omega arith, (t, run_all name_byte bs)) (run_ends bs) s)

  first_spells : Spells (drop (name_rest b bs) bs) ws → Front (first_word (b ∷ bs))
  first_spells = go (name_byte b) refl
    where
      go : (v : Bool) → name_byte b ≡ v → Spells (drop (cond v (prefix_len name_byte bs) 0) bs) ws → Front (cond v (name (b ∷ take (prefix_len name_byte bs) bs)) (sign_word b))
      go true t s = name_spells t s
      go false t s = sign_spells s

abbrev Back : ℕ → ℕ → ℕ → List ℕ → List Word → Type 0
Back l e k bs ws = AllByRecursion Plain ws → said (words l e k bs) ≡ ws ++ end ∷ [] → Spells (drop k bs) ws

module _ (l e b : ℕ) (bs : List ℕ) (rest : (k : ℕ) (ws : List Word) → Back l e k bs ws) where
  front_spells : (ws : List Word) → AllByRecursion Plain ws → first_word (b ∷ bs) ∷ said (words l e (name_rest b bs) bs) ≡ ws ++ end ∷ [] → Spells (b ∷ bs) ws
  front_spells [] h q =
      let z : first_word (b ∷ bs) ≡ end = cc in
      absurd (both_ways _ (not_end b bs) (ap is_end z))
  front_spells (w ∷ ws) h q =
      let z : first_word (b ∷ bs) ≡ w = cc in
      let r : said (words l e (name_rest b bs) bs) ≡ ws ++ end ∷ [] = cc in
      subst (λ v. Spells (b ∷ bs) (v ∷ ws)) z (first_spells b bs ws (rest (name_rest b bs) ws h.1 r) (subst Plain (sym z) h.0))

  line_spells : (ws : List Word) → Back l e 0 (b ∷ bs) ws
  line_spells ws h =
      let P : List Tok → Type 0 = λ ts. said ts ≡ ws ++ end ∷ [] → Spells (b ∷ bs) ws in
      cond_both (eqb b 35) _ _ P
      (λ t q. subst (λ x. Spells (x ∷ bs) ws) (sym (eqb-true b 35 t)) (subst (Spells (35 ∷ bs)) (only_end ws h q) (comment bs)))
      (λ _. cond_both (space_byte b) _ _ P
      (λ t q. separator t (rest 0 ws h q))
      (λ _. front_spells ws h))

module _ (l e : ℕ) where
  rest_spells : (bs : List ℕ) (k : ℕ) (ws : List Word) → Back l e k bs ws
  rest_spells [] zero ws h q = subst (Spells []) (only_end ws h q) nothing
  rest_spells [] (suc k) ws h q = subst (Spells []) (only_end ws h q) nothing
  rest_spells (b ∷ bs) (suc k) ws h q = rest_spells bs k ws h q
  rest_spells (b ∷ bs) zero ws h q = line_spells l e b bs (rest_spells bs) ws h q

  pub words_spell : (bs : List ℕ) (ws : List Word) → AllByRecursion Plain ws → said (words l e 0 bs) ≡ ws ++ end ∷ [] → Spells bs ws
  words_spell bs ws h q = rest_spells bs 0 ws h q
