-- A fault that is written is read again.
use Rattle.std.proofs.Common.{◌≡◌, ℕ, ◌+◌, ◌<◌, ◌≤◌, Bool, true, false, ◌||◌, eqb, leb, List, [], ◌∷◌, ◌++◌, reverse, length, get_or, take, drop, IfOk, Some, None, Ok, IsUtf8, decimal, Option, Result, sym, refl, ap, ◌∙◌, subst, ⊎_elim, zero-le, arith}
use Rattle.std.specs.Int.{is_in_range}
use Rattle.std.specs.Char.{is_ascii_digit, is_ascii_alphabetic}
use Rattle.std.specs.List.{prefix_len, suffix_len, AllByRecursion, slice_get}
use Rattle.std.proofs.ByRecursion.{IsAscii-from_all}
use Rattle.std.proofs.lemmas.Fmt.{decimal_digit}
use Rattle.std.proofs.lemmas.List.{append_assoc, reverse-append, take_all}
use Rattle.std.proofs.lemmas.Result.{IfOk-weaker}
use Rattle.std.proofs.lemmas.Bool.{or_cases, and_parts, leb-true, ltb-true, eqb-true}
use Rattle.std.proofs.lemmas.Str.{IsUtf8-from_ascii}
use Rattle.circuit.specs.Plans.{Plan, has_site, pins_at, line_of}
use Rattle.circuit.specs.Shape.{Counted}
use Rattle.circuit.specs.declared.faults.Fault.{Fault}
use Rattle.circuit.specs.declared.faults.Site.{Site}
use Rattle.circuit.specs.declared.faults.Site.TheVariants.{Stem, Pin}
use Rattle.circuit.specs.declared.lines.Line.{Line}
use Rattle.textfiles.specs.Cursors.{has, shut, item}
use Rattle.textfiles.specs.Denotes.{Names, ends, Denotes, stem, pin}
use Rattle.textfiles.specs.Faults.{fault_of}
use Rattle.textfiles.specs.Writing.{value_text, after_name, fault_text}
use Rattle.textfiles.specs.declared.cursors.Class.TheVariants.{Name, Blank}
use Rattle.textfiles.proofs.Denoted.{read_denoted}
use Rattle.texts.proofs.Fronts.{run_none}
use Rattle.texts.proofs.NameBytes.{name_no_space}
use Rattle.textfiles.proofs.GatePins.{at_most_four}

up_to : (lo hi b : ℕ) → is_in_range lo hi b ≡ true → b ≤ hi
up_to lo hi b h = leb-true b hi (and_parts (leb lo b) (leb b hi) h).1

-- a name byte is a byte of ASCII
name_ascii : (b : ℕ) → has Name b ≡ true → b < 128
name_ascii b h =
    ⊎_elim
    (λ (letter : is_ascii_alphabetic b ≡ true).
    ⊎_elim (λ (u : is_in_range 65 90 b ≡ true). let r = up_to 65 90 b u in omega arith)
    (λ (l : is_in_range 97 122 b ≡ true). let r = up_to 97 122 b l in omega arith)
    (or_cases (is_in_range 65 90 b) (is_in_range 97 122 b) letter))
    (λ (other : (is_ascii_digit b || eqb b 95) ≡ true).
    ⊎_elim (λ (d : is_in_range 48 57 b ≡ true). let r = up_to 48 57 b d in omega arith)
    (λ (u : eqb b 95 ≡ true). let r = eqb-true b 95 u in omega arith)
    (or_cases (is_ascii_digit b) (eqb b 95) other))
    (or_cases (is_ascii_alphabetic b) (is_ascii_digit b || eqb b 95) h)

all_ascii : (w : List ℕ) → AllByRecursion (λ b. has Name b ≡ true) w → AllByRecursion (λ b. b < 128) w
all_ascii [] h = tt
all_ascii (b ∷ bs) h = (name_ascii b h.0, all_ascii bs h.1)

pub name_text : (w : List ℕ) → AllByRecursion (λ b. has Name b ≡ true) w → IsUtf8 w
name_text w h = IsUtf8-from_ascii w (IsAscii-from_all w (all_ascii w h))

-- an item with no blank at either end is all of its bytes
whole_item : (l : ℕ) (bs : List ℕ) (d : ℕ) → has Blank (get_or (bs ++ d ∷ []) 0 0) ≡ false → has Blank d ≡ false → item l (bs ++ d ∷ []) ≡ record { rest = bs ++ d ∷ []; line = l; end = length (bs ++ d ∷ []) + 1 }
whole_item l bs d first last =
    let all = bs ++ d ∷ [] in
    let none : suffix_len (has Blank) all ≡ 0 = ap (prefix_len (has Blank)) (reverse-append bs (d ∷ [])) ∙ run_none (has Blank) (d ∷ reverse bs) last in
    let kept : take (shut all) all ≡ all = take_all (shut all) all (omega arith) in
    ap (λ ts. record { rest = drop (prefix_len (has Blank) ts) ts; line = l; end = length ts + 1 }) kept
    ∙ ap (λ k. record { rest = drop k all; line = l; end = length all + 1 }) (run_none (has Blank) all first)

-- what stands after the name ends in the value, which is no blank
last_digit : (site : Site) (v : Bool) → (bs : List ℕ) × (d : ℕ) × (after_name site v ≡ bs ++ d ∷ []) × (has Blank d ≡ false)
last_digit (Stem l) false = (47 ∷ [], 48, refl, refl)
last_digit (Stem l) true = (47 ∷ [], 49, refl, refl)
last_digit (Pin l n) false = (46 ∷ (decimal n ++ 47 ∷ []), 48, ap (λ r. 46 ∷ r) (sym (append_assoc (decimal n) (47 ∷ []) (48 ∷ []))), refl)
last_digit (Pin l n) true = (46 ∷ (decimal n ++ 47 ∷ []), 49, ap (λ r. 46 ∷ r) (sym (append_assoc (decimal n) (47 ∷ []) (49 ∷ []))), refl)

first_no_blank : (w bs : List ℕ) → 1 ≤ length w → AllByRecursion (λ b. has Name b ≡ true) w → has Blank (get_or (w ++ bs) 0 0) ≡ false
first_no_blank [] bs some h = absurd (omega arith)
first_no_blank (b ∷ w) bs some h = name_no_space b h.0

few : (ls : List Line) (l : ℕ) (o : Option Line) → Counted ls → o ≡ slice_get ls l → pins_at o ≤ 4
few ls l None counted e = zero-le
few ls l (Some x) counted e = at_most_four ls l x counted e

module _ (p : Plan) (w : List ℕ) (counted : Counted p.lines) where
  denotes : (site : Site) (v : Bool) → Names p w (line_of site) → has_site p site ≡ true → Denotes p (w ++ after_name site v) (record { site = site; stuck = v })
  denotes (Stem l) v named there = stem named (ends [] tt)
  denotes (Pin l n) v named there =
      let below = ltb-true n (pins_at (slice_get p.lines l)) there in
      let four = few p.lines l (slice_get p.lines l) counted refl in
      let small : n < 10 = omega arith in
      subst (λ (ds : List ℕ). Denotes p (w ++ 46 ∷ (ds ++ 47 ∷ value_text v)) (record { site = Pin l n; stuck = v })) (sym (decimal_digit n small)) (pin named small there (ends [] tt))

  read_written : (f : Fault) → Names p w (line_of f.site) → has_site p f.site ≡ true → fault_of p (item 1 (fault_text w f)) ≡ Ok f
  read_written f named there =
      let t = last_digit f.site f.stuck in
      let cs = w ++ t.0 in
      let spelt : fault_text w f ≡ cs ++ t.1 ∷ [] = ap (λ r. w ++ r) t.2 ∙ sym (append_assoc w t.0 (t.1 ∷ [])) in
      let first : has Blank (get_or (cs ++ t.1 ∷ []) 0 0) ≡ false = subst (λ (bs : List ℕ). has Blank (get_or bs 0 0) ≡ false) spelt (first_no_blank w (after_name f.site f.stuck) named.some named.bytes) in
      ap (λ bs. fault_of p (item 1 bs)) spelt
      ∙ ap (fault_of p) (whole_item 1 cs t.1 first t.3)
      ∙ read_denoted 1 (length (cs ++ t.1 ∷ []) + 1) p (cs ++ t.1 ∷ []) f (subst (λ (bs : List ℕ). Denotes p bs f) spelt (denotes f.site f.stuck named there))

-- a text made of a name is made of an equal one
pub renamed : {S E : Type 0} (view : S → List ℕ) (r : Result S E) (f : Fault) (u w : List ℕ) → u ≡ w → IfOk r (λ s. view s ≡ fault_text u f) → IfOk r (λ s. view s ≡ fault_text w f)
renamed view r f u w e m = subst (λ (n : List ℕ). IfOk r (λ s. view s ≡ fault_text n f)) e m

pub read_again : {S E : Type 0} (view : S → List ℕ) (r : Result S E) (p : Plan) (f : Fault) (w : List ℕ) → Counted p.lines → Names p w (line_of f.site) → has_site p f.site ≡ true → IfOk r (λ s. view s ≡ fault_text w f) → IfOk r (λ s. fault_of p (item 1 (view s)) ≡ Ok f)
read_again view r p f w counted named there m =
    IfOk-weaker r (λ s. view s ≡ fault_text w f) (λ s. fault_of p (item 1 (view s)) ≡ Ok f) (λ s e. ap (λ bs. fault_of p (item 1 bs)) e ∙ read_written p w counted f named there) m
