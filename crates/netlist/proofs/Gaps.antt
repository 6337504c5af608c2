-- What one call of `next_token` takes from a line's tokens.
use Rattle.std.specs.List.{prefix_len}
use Rattle.std.proofs.Common.{◌≡◌, ℕ, zero, suc, ◌+◌, ◌-◌, ◌≤◌, Bool, true, false, cond, eqb, List, [], ◌∷◌, length, get_or, take, drop, sym, refl, ap, ◌∙◌, one-add, arith}
use Rattle.std.proofs.lemmas.List.{drop_all}
use Rattle.std.proofs.lemmas.List.Folds.{length-prefix_len}
use Rattle.std.proofs.lemmas.List.Sums.{prefix_len-le-length}
use Rattle.std.proofs.lemmas.Bool.{cond_both, eqb-true}
use Rattle.texts.specs.Bytes.{space_byte, name_byte}
use Rattle.netlist.specs.Tokens.{gap, words, at, end, first_word, is_end, first, after, Tok, Word, name, spelling, sort_of, sign_word, word_of}

suc_cond : (b : Bool) (m n : ℕ) → suc (cond b m n) ≡ cond b (suc m) (suc n)
suc_cond true m n = refl
suc_cond false m n = refl

hash_no_space : (b : ℕ) → eqb b 35 ≡ true → space_byte b ≡ false
hash_no_space b h = ap space_byte (eqb-true b 35 h)

-- the separators, and all of the bytes where a comment stands after them
pub gap_spaces : (s : List ℕ) → gap s ≡ cond (eqb (get_or (drop (prefix_len space_byte s) s) 0 0) 35) (length s) (prefix_len space_byte s)
gap_spaces [] = refl
gap_spaces (b ∷ bs) =
    let n = prefix_len space_byte bs in
    let P : ℕ → Type 0 = λ k. k ≡ cond (eqb (get_or (drop (prefix_len space_byte (b ∷ bs)) (b ∷ bs)) 0 0) 35) (suc (length bs)) (prefix_len space_byte (b ∷ bs)) in
    cond_both (eqb b 35) _ _ P
    (λ h. rw (hash_no_space b h, h) refl)
    (λ h. cond_both (space_byte b) _ _ P
    (λ t. rw (t, one-add, gap_spaces bs) (suc_cond (eqb (get_or (drop n bs) 0 0) 35) (length bs) n))
    (λ t. rw (t, h) refl))

pub gap_within : (s : List ℕ) → gap s ≤ length s
gap_within [] = omega arith
gap_within (b ∷ bs) =
    let more = gap_within bs in
    cond_both (eqb b 35) _ _ (λ n. n ≤ suc (length bs)) (λ _. omega arith)
    (λ _. cond_both (space_byte b) _ _ (λ n. n ≤ suc (length bs)) (λ _. omega arith) (λ _. omega arith))

-- the gap's end begins with a token
gap_again : (s : List ℕ) → gap (drop (gap s) s) ≡ 0
gap_again [] = refl
gap_again (b ∷ bs) =
    cond_both (eqb b 35) _ _ (λ n. gap (drop n (b ∷ bs)) ≡ 0) (λ _. ap gap (drop_all (length bs) bs (omega arith)))
    (λ e. cond_both (space_byte b) _ _ (λ n. gap (drop n (b ∷ bs)) ≡ 0) (λ _. gap_again bs) (λ t. rw (e, t)))

module _ (l e : ℕ) where
  pub words_skip : (k : ℕ) (s : List ℕ) → words l e k s ≡ words l e 0 (drop k s)
  words_skip zero s = refl
  words_skip (suc k) (b ∷ bs) = words_skip k bs
  words_skip (suc k) [] = refl

  words_gap : (s : List ℕ) → words l e 0 s ≡ words l e 0 (drop (gap s) s)
  words_gap [] = refl
  words_gap (b ∷ bs) =
      let P : ℕ → Type 0 = λ n. words l e 0 (b ∷ bs) ≡ words l e 0 (drop n (b ∷ bs)) in
      cond_both (eqb b 35) _ _ P
      (λ h. rw (h, drop_all (length bs) bs (omega arith)))
      (λ h. cond_both (space_byte b) _ _ P (λ t. rw (h, t) (words_gap bs)) (λ t. refl))

pub not_end : (b : ℕ) (bs : List ℕ) → is_end (first_word (b ∷ bs)) ≡ false
not_end b bs =
    let P : Word → Type 0 = λ w. is_end w ≡ false in
    cond_both (name_byte b) _ _ P (λ _. refl)
    (λ _. cond_both (eqb b 40) _ _ P (λ _. refl)
    (λ _. cond_both (eqb b 41) _ _ P (λ _. refl)
    (λ _. cond_both (eqb b 44) _ _ P (λ _. refl)
    (λ _. cond_both (eqb b 61) _ _ P (λ _. refl) (λ _. refl)))))

-- how many bytes of a text without a gap belong to its first word
abbrev pub first_size : List ℕ → ℕ
first_size [] = 0
first_size (b ∷ bs) = suc (cond (name_byte b) (prefix_len name_byte bs) 0)

sign_size : (b : ℕ) → length (spelling (sign_word b)) ≡ 1
sign_size b =
    let P : Word → Type 0 = λ w. length (spelling w) ≡ 1 in
    cond_both (eqb b 40) _ _ P (λ _. refl)
    (λ _. cond_both (eqb b 41) _ _ P (λ _. refl)
    (λ _. cond_both (eqb b 44) _ _ P (λ _. refl)
    (λ _. cond_both (eqb b 61) _ _ P (λ _. refl) (λ _. refl))))

-- they are those that the word has
pub spelling_size : (s : List ℕ) → length (spelling (first_word s)) ≡ first_size s
spelling_size [] = refl
spelling_size (b ∷ bs) = by_name (name_byte b)
  where
    by_name : (v : Bool) → length (spelling (cond v (name (b ∷ take (prefix_len name_byte bs) bs)) (sign_word b))) ≡ suc (cond v (prefix_len name_byte bs) 0)
    by_name true = ap suc (length-prefix_len name_byte bs)
    by_name false = sign_size b

pub first_within : (s : List ℕ) → first_size s ≤ length s
first_within [] = omega arith
first_within (b ∷ bs) = cond_both (name_byte b) _ _ (λ n. suc n ≤ suc (length bs)) (λ _. omega (arith, prefix_len-le-length name_byte bs)) (λ _. omega arith)

clear : (h t : Bool) (m n : ℕ) → cond h (suc m) (cond t (suc n) 0) ≡ 0 → (h ≡ false) × (t ≡ false)
clear true t m n e = absurd (omega arith)
clear false true m n e = absurd (omega arith)
clear false false m n e = (refl, refl)

words_cons : (l e b : ℕ) (bs : List ℕ) → gap (b ∷ bs) ≡ 0 → words l e 0 (b ∷ bs) ≡ at l (e - suc (length bs)) (first_word (b ∷ bs)) ∷ words l e (cond (name_byte b) (prefix_len name_byte bs) 0) bs
words_cons l e b bs g =
    let z = clear (eqb b 35) (space_byte b) _ _ g in
    let h = z.0 in
    let t = z.1 in
    rw (h, t)

-- where no gap is, the first token is the first word, and the others are those of what follows it
words_first : (l e : ℕ) (s : List ℕ) → gap s ≡ 0 → (first (words l e 0 s) ≡ at l (e - length s) (first_word s)) × (after (words l e 0 s) ≡ words l e 0 (drop (first_size s) s))
words_first l e [] g = (ap (λ c. at l c end) (omega arith), refl)
words_first l e (b ∷ bs) g =
    let k : ℕ = cond (name_byte b) (prefix_len name_byte bs) 0 in
    let w = words_cons l e b bs g in (
      ap first w,
      ap after w
          ∙ ap (λ v. cond v (at l (e - suc (length bs)) (first_word (b ∷ bs)) ∷ words l e k bs) (words l e k bs)) (not_end b bs)
          ∙ words_skip l e k bs,
    )

-- all of it: the gap, then the first word
module _ (l e : ℕ) (s text left : List ℕ) (n : ℕ) (back : text ≡ drop (gap s) s) (size : n ≡ first_size text) (after-it : left ≡ drop n text) where
  clean : gap text ≡ 0
  clean = ap gap back ∙ gap_again s

  start : words l e 0 s ≡ words l e 0 text
  start = words_gap l e s ∙ ap (words l e 0) (sym back)

  pub next_first : first (words l e 0 s) ≡ at l (e - length text) (first_word text)
  next_first = ap first start ∙ (words_first l e text clean).0

  pub next_after : after (words l e 0 s) ≡ words l e 0 left
  next_after = ap after start ∙ (words_first l e text clean).1 ∙ ap (λ k. words l e 0 (drop k text)) (sym size) ∙ ap (words l e 0) (sym after-it)

pub words_length : (l e k : ℕ) (s : List ℕ) → length (words l e k s) ≤ length s + 1
words_length l e k [] = omega arith
words_length l e (suc k) (b ∷ bs) = omega (arith, words_length l e k bs)
words_length l e zero (b ∷ bs) =
    let P : List Tok → Type 0 = λ ts. length ts ≤ suc (length bs) + 1 in
    let m = words_length l e 0 bs in
    let n = words_length l e (cond (name_byte b) (prefix_len name_byte bs) 0) bs in
    cond_both (eqb b 35) _ _ P (λ _. omega arith) (λ _. cond_both (space_byte b) _ _ P (λ _. omega arith) (λ _. omega arith))

-- the token of one byte has its sort, and its byte
pub sign_spelt : (b : ℕ) → (word_of (sort_of (sign_word b)) (b ∷ []) ≡ sign_word b) × (spelling (sign_word b) ≡ b ∷ [])
sign_spelt b =
    let P : Word → Type 0 = λ w. (word_of (sort_of w) (b ∷ []) ≡ w) × (spelling w ≡ b ∷ []) in
    cond_both (eqb b 40) _ _ P (λ h. (refl, ap (λ c. c ∷ []) (sym (eqb-true b 40 h))))
    (λ _. cond_both (eqb b 41) _ _ P (λ h. (refl, ap (λ c. c ∷ []) (sym (eqb-true b 41 h))))
    (λ _. cond_both (eqb b 44) _ _ P (λ h. (refl, ap (λ c. c ∷ []) (sym (eqb-true b 44 h))))
    (λ _. cond_both (eqb b 61) _ _ P (λ h. (refl, ap (λ c. c ∷ []) (sym (eqb-true b 61 h)))) (λ _. (refl, refl)))))
