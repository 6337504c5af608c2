-- An item is read as the fault that its bytes denote.
use Rattle.std.proofs.Common.{◌≡◌, ℕ, ◌+◌, ◌-◌, ◌<◌, Bool, true, false, not, ◌&&◌, eqb, leb, List, [], ◌∷◌, ◌++◌, length, get_or, take, drop, Ok, Err, Result, sym, refl, ap, ◌∙◌, subst, ⊎_elim, arith, lit<}
use Rattle.std.specs.Option.{ok_or}
use Rattle.std.specs.Char.{is_ascii_digit}
use Rattle.std.specs.List.{AllByRecursion, slice_get}
use Rattle.std.proofs.lemmas.List.{take_at, drop_at, take-append-drop, nil_from_length}
use Rattle.std.proofs.lemmas.Bool.{cond-true, cond-false, cases_Bool, eqb-true, eqb-false, ne_eqb, not-false, or_cases, and_parts, and_left, le-leb, leb-true, and_from}
use Rattle.circuit.specs.Names.{find}
use Rattle.circuit.specs.Plans.{Plan, has_site}
use Rattle.circuit.specs.declared.faults.Fault.{Fault}
use Rattle.circuit.specs.declared.faults.Site.{Site}
use Rattle.circuit.specs.declared.faults.Site.TheVariants.{Stem, Pin}
use Rattle.textfiles.specs.Cursors.{Spot, has, run, past, flaw}
use Rattle.textfiles.specs.Denotes.{Names, Ends, ends, Denotes, stem, pin, fed, Faithful}
use Rattle.textfiles.specs.Faults.{name_at, line_at, pin_at, feeders, fed_pin, bit_at, slash_at, value_at, stuck_at, site_after, fault_of}
use Rattle.texts.specs.Steps.{bind, unless}
use Rattle.textfiles.specs.Flaws.{Answers}
use Rattle.textfiles.specs.Items.{each, Accepts}
use Rattle.textfiles.specs.Writing.{value_text}
use Rattle.textfiles.specs.declared.cursors.Class.{Class}
use Rattle.textfiles.specs.declared.cursors.Class.TheVariants.{Name, Space}
use Rattle.textfiles.specs.declared.flaws.Flaw.{Flaw}
use Rattle.textfiles.specs.declared.flaws.ReadError.{ReadError}
use Rattle.textfiles.specs.declared.flaws.What.{What}
use Rattle.textfiles.specs.declared.flaws.What.TheVariants.{NoName, UnknownName, NoSign, NoSlash, NoPin, NoValue}
use Rattle.textfiles.proofs.EachItem.{accepts}
use Rattle.texts.proofs.Fronts.{run_front, run_none, run_all}
use Rattle.textfiles.proofs.Fronts.{begins_with, begins_with_two}
use Rattle.texts.proofs.Risen.{bind_ok, unless_ok, ok_or_ok}
use Rattle.textfiles.proofs.OnePlace.{only_solely, solely_only}

-- what ends in a value begins with a space, a tab or a slash
first_byte : (P : ℕ → Type 0) (e : List ℕ) (v : Bool) → P 32 → P 9 → P 47 → Ends e v → P (get_or e 0 0)
first_byte P e v space tab slash (ends [] h) = slash
first_byte P e v space tab slash (ends (g ∷ gap) h) =
    ⊎_elim (λ t. subst P (sym (eqb-true g 32 t)) space) (λ t. subst P (sym (eqb-true g 9 t)) tab) (or_cases (eqb g 32) (eqb g 9) h.0)

module _ (ln en : ℕ) where
  abbrev at : List ℕ → Spot
  at bs = record { rest = bs; line = ln; end = en }

  -- past a front of a class
  past_front : (c : Class) (cs bs : List ℕ) → AllByRecursion (λ b. has c b ≡ true) cs → has c (get_or bs 0 0) ≡ false → past c (at (cs ++ bs)) ≡ at bs
  past_front c cs bs h stop = ap at (drop_at cs bs (run c (cs ++ bs)) (sym (run_front (has c) cs bs h (run_none (has c) bs stop))))

  name_front : (cs bs : List ℕ) → AllByRecursion (λ b. has Name b ≡ true) cs → has Name (get_or bs 0 0) ≡ false → name_at (at (cs ++ bs)) ≡ cs
  name_front cs bs h stop = take_at cs bs (run Name (cs ++ bs)) (sym (run_front (has Name) cs bs h (run_none (has Name) bs stop)))

  slashed : (w : What) (v : Bool) → slash_at w (at (47 ∷ value_text v)) ≡ Ok v
  slashed w false = refl
  slashed w true = refl

  value_ends : (w : What) (e : List ℕ) (v : Bool) → Ends e v → value_at w (at e) ≡ Ok v
  value_ends w e v (ends gap h) = ap (slash_at w) (past_front Space gap (47 ∷ value_text v) h refl) ∙ slashed w v

  module _ (p : Plan) where
    line_named : (w bs : List ℕ) (l : ℕ) → Names p w l → has Name (get_or bs 0 0) ≡ false → line_at p (at (w ++ bs)) ≡ Ok l
    line_named w bs l n stop =
        let same = name_front w bs n.bytes stop in
        let some = n.some in
        cond-false _ _ _ (ne_eqb (length (name_at (at (w ++ bs)))) 0 (λ z. omega (arith, ap length same)))
        ∙ ap (λ o. ok_or o (flaw (at (w ++ bs)) UnknownName)) (ap (find p.names) same ∙ n.line)

    -- past the first name
    fault_named : (w bs : List ℕ) (l : ℕ) → Names p w l → has Name (get_or bs 0 0) ≡ false → fault_of p (at (w ++ bs)) ≡ site_after p (at (w ++ bs)) l (at bs)
    fault_named w bs l n stop =
        ap (λ r. bind r (λ k. site_after p (at (w ++ bs)) k (past Name (at (w ++ bs))))) (line_named w bs l n stop)
        ∙ ap (site_after p (at (w ++ bs)) l) (past_front Name w bs n.bytes stop)

    pin_digit : (e : List ℕ) (l n : ℕ) → n < 10 → has_site p (Pin l n) ≡ true → pin_at p l (at ((48 + n) ∷ e)) ≡ Ok n
    pin_digit e l n small site =
        let same : 48 + n - 48 ≡ n = omega arith in
        let digit : is_ascii_digit (48 + n) ≡ true = and_from _ _ (le-leb 48 (48 + n) (omega arith)) (le-leb (48 + n) 57 (omega arith)) in
        cond-false _ _ _ (ap not digit) ∙ cond-false _ _ _ (ap not (ap (λ k. has_site p (Pin l k)) same ∙ site)) ∙ ap (λ k. Ok k) same

    no_name : (e : List ℕ) (v : Bool) → Ends e v → has Name (get_or e 0 0) ≡ false
    no_name e v d = first_byte (λ b. has Name b ≡ false) e v refl refl refl d

    pub read_denoted : (bs : List ℕ) (f : Fault) → Denotes p bs f → fault_of p (at bs) ≡ Ok f
    read_denoted bs f (stem {p} {w} {e} {l} {v} n d) =
        fault_named w e l n (no_name e v d)
        ∙ cond-false _ _ _ (first_byte (λ b. eqb b 46 ≡ false) e v refl refl refl d)
        ∙ cond-false _ _ _ (and_left _ _ (first_byte (λ b. eqb b 45 ≡ false) e v refl refl refl d))
        ∙ ap (stuck_at (Stem l)) (value_ends NoSign e v d)
    read_denoted bs f (pin {p} {w} {e} {l} {n} {v} a small site d) =
        fault_named w (46 ∷ (48 + n) ∷ e) l a refl
        ∙ ap (λ r. bind r (λ k. stuck_at (Pin l k) (value_at NoSlash (at e)))) (pin_digit e l n small site)
        ∙ ap (stuck_at (Pin l n)) (value_ends NoSlash e v d)
    read_denoted bs f (fed {p} {from} {w} {e} {l} {m} {n} {v} a b h d) =
        let s = at (from ++ 45 ∷ 62 ∷ (w ++ e)) in
        fault_named from (45 ∷ 62 ∷ (w ++ e)) l a refl
        ∙ ap (λ r. bind r (λ x. bind (fed_pin p s l x) (λ k. stuck_at (Pin x k) (value_at NoSlash (past Name (at (w ++ e))))))) (line_named w e m b (no_name e v d))
        ∙ ap (λ r. bind r (λ k. stuck_at (Pin m k) (value_at NoSlash (past Name (at (w ++ e)))))) (only_solely l s (feeders (slice_get p.lines m)) n h)
        ∙ ap (λ t. stuck_at (Pin m n) (value_at NoSlash t)) (past_front Name w e b.bytes (no_name e v d))
        ∙ ap (stuck_at (Pin m n)) (value_ends NoSlash e v d)

  bit_ok : (cs : List ℕ) (v : Bool) → bit_at (at cs) ≡ Ok v → drop 1 cs ≡ [] → cs ≡ value_text v
  bit_ok cs v e none =
      ⊎_elim
      (λ (t : eqb (get_or cs 0 0) 48 ≡ true).
      let c : bit_at (at cs) ≡ Ok false = cond-true _ _ _ t in
      let zero-value : false ≡ v = cc in
      begins_with cs 48 (lit< tt) (eqb-true (get_or cs 0 0) 48 t) ∙ ap (λ r. 48 ∷ r) none ∙ ap value_text zero-value)
      (λ (f : eqb (get_or cs 0 0) 48 ≡ false).
      ⊎_elim
      (λ (t : eqb (get_or cs 0 0) 49 ≡ true).
      let c : bit_at (at cs) ≡ Ok true = cond-false _ _ _ f ∙ cond-true _ _ _ t in
      let one_value : true ≡ v = cc in
      begins_with cs 49 (lit< tt) (eqb-true (get_or cs 0 0) 49 t) ∙ ap (λ r. 49 ∷ r) none ∙ ap value_text one_value)
      (λ (g : eqb (get_or cs 0 0) 49 ≡ false).
      let c : bit_at (at cs) ≡ Err (flaw (at cs) NoValue) = cond-false _ _ _ f ∙ cond-false _ _ _ g in
      let z : ◌≡◌ {A = ℕ} 0 1 = cc in
      absurd (omega arith))
      (cases_Bool (eqb (get_or cs 0 0) 49)))
      (cases_Bool (eqb (get_or cs 0 0) 48))

  slash_ok : (w : What) (bs : List ℕ) (v : Bool) → slash_at w (at bs) ≡ Ok v → bs ≡ 47 ∷ value_text v
  slash_ok w bs v e =
      let u = unless_ok _ _ _ v e in
      let b = bind_ok (bit_at (at (drop 1 bs))) _ v u.1 in
      let d = unless_ok _ _ (Ok b.0) v b.2 in
      let last = d.1 in
      let same : b.0 ≡ v = cc in
      let none = nil_from_length (drop 1 (drop 1 bs)) (eqb-true _ 0 (not-false _ d.0)) in
      begins_with bs 47 (lit< tt) (eqb-true (get_or bs 0 0) 47 (not-false _ u.0))
      ∙ ap (λ r. 47 ∷ r) (bit_ok (drop 1 bs) b.0 b.1 none)
      ∙ ap (λ x. 47 ∷ value_text x) same

  value_ok : (w : What) (bs : List ℕ) (v : Bool) → value_at w (at bs) ≡ Ok v → Ends bs v
  value_ok w bs v e =
      let k = run Space bs in
      subst (λ (x : List ℕ). Ends x v) (ap (λ r. take k bs ++ r) (sym (slash_ok w (drop k bs) v e)) ∙ take-append-drop k bs) (ends (take k bs) (run_all (has Space) bs))

  module _ (p : Plan) where
    named_line : (bs : List ℕ) (l : ℕ) → line_at p (at bs) ≡ Ok l → Names p (name_at (at bs)) l
    named_line bs l e =
        let u = unless_ok (eqb (length (name_at (at bs))) 0) (flaw (at bs) NoName) (ok_or (find p.names (name_at (at bs))) (flaw (at bs) UnknownName)) l e in
        let some = eqb-false (length (name_at (at bs))) 0 u.0 in
        record { some = omega arith; bytes = run_all (has Name) bs; line = ok_or_ok (find p.names (name_at (at bs))) (flaw (at bs) UnknownName) l u.1 }

    pin_ok : (cs : List ℕ) (l n : ℕ) → pin_at p l (at cs) ≡ Ok n → (get_or cs 0 0 ≡ 48 + n) × (n < 10) × (has_site p (Pin l n) ≡ true)
    pin_ok cs l n e =
        let b = get_or cs 0 0 in
        let w = flaw (at cs) NoPin in
        let u = unless_ok (not (is_ascii_digit b)) w (unless (not (has_site p (Pin l (b - 48)))) w (Ok (b - 48))) n e in
        let d = unless_ok (not (has_site p (Pin l (b - 48)))) w (Ok (b - 48)) n u.1 in
        let last = d.1 in
        let same : b - 48 ≡ n = cc in
        let range = and_parts (leb 48 b) (leb b 57) (not-false (is_ascii_digit b) u.0) in
        let low = leb-true 48 b range.0 in
        let high = leb-true b 57 range.1 in
        (omega arith, omega arith, ap (λ k. has_site p (Pin l k)) (sym same) ∙ not-false _ d.0)

    stuck_ok : (site : Site) (w : What) (bs : List ℕ) (f : Fault) → stuck_at site (value_at w (at bs)) ≡ Ok f → (v : Bool) × Ends bs v × (record { site = site; stuck = v } ≡ f)
    stuck_ok site w bs f e =
        let b = bind_ok (value_at w (at bs)) _ f e in
        let last = b.2 in
        (b.0, value_ok w bs b.0 b.1, cc)

    carry : (w : List ℕ) {bs cs : List ℕ} {f g : Fault} → bs ≡ cs → f ≡ g → Denotes p (w ++ bs) f → Denotes p (w ++ cs) g
    carry w {bs} {cs} {f} {g} e h d = subst (λ (x : Fault). Denotes p (w ++ cs) x) h (subst (λ (x : List ℕ). Denotes p (w ++ x) f) e d)

    module _ (s : Spot) (w ts : List ℕ) (l : ℕ) (f : Fault) (named : Names p w l) where
      pin_form : get_or ts 0 0 ≡ 46 → bind (pin_at p l (at (drop 1 ts))) (λ n. stuck_at (Pin l n) (value_at NoSlash (at (drop 2 ts)))) ≡ Ok f → Denotes p (w ++ ts) f
      pin_form dot e =
          let b = bind_ok (pin_at p l (at (drop 1 ts))) _ f e in
          let k = pin_ok (drop 1 ts) l b.0 b.1 in
          let d = stuck_ok (Pin l b.0) NoSlash (drop 2 ts) f b.2 in
          let bytes = begins_with_two ts 46 (48 + b.0) (lit< tt) (omega arith) dot k.0 in
          carry w (sym bytes) d.2 (pin named k.1 k.2 d.1)

      fed_form : get_or ts 0 0 ≡ 45 → get_or (drop 1 ts) 0 0 ≡ 62 → bind (line_at p (at (drop 2 ts))) (λ m. bind (fed_pin p s l m) (λ n. stuck_at (Pin m n) (value_at NoSlash (past Name (at (drop 2 ts)))))) ≡ Ok f → Denotes p (w ++ ts) f
      fed_form dash arrow e =
          let rest = drop 2 ts in
          let b = bind_ok (line_at p (at rest)) _ f e in
          let c = bind_ok (fed_pin p s l b.0) _ f b.2 in
          let d = stuck_ok (Pin b.0 c.0) NoSlash (drop (run Name rest) rest) f c.2 in
          let bytes = ap (λ x. 45 ∷ 62 ∷ x) (take-append-drop (run Name rest) rest) ∙ sym (begins_with_two ts 45 62 (lit< tt) (lit< tt) dash arrow) in
          carry w bytes d.2 (fed named (named_line rest b.0 b.1) (solely_only l s (feeders (slice_get p.lines b.0)) c.0 c.1) d.1)

      stem_form : stuck_at (Stem l) (value_at NoSign (at ts)) ≡ Ok f → Denotes p (w ++ ts) f
      stem_form e = let d = stuck_ok (Stem l) NoSign ts f e in carry w refl d.2 (stem named d.1)

      site_ok : site_after p s l (at ts) ≡ Ok f → Denotes p (w ++ ts) f
      site_ok e =
          ⊎_elim (λ dot. pin_form (eqb-true _ 46 dot) (sym (cond-true _ _ _ dot) ∙ e))
          (λ no-dot.
          ⊎_elim
          (λ arrow. let signs = and_parts _ _ arrow in fed_form (eqb-true _ 45 signs.0) (eqb-true _ 62 signs.1) (sym (cond-true _ _ _ arrow) ∙ sym (cond-false _ _ _ no-dot) ∙ e))
          (λ no-arrow. stem_form (sym (cond-false _ _ _ no-arrow) ∙ sym (cond-false _ _ _ no-dot) ∙ e))
          (cases_Bool (eqb (get_or ts 0 0) 45 && eqb (get_or (drop 1 ts) 0 0) 62)))
          (cases_Bool (eqb (get_or ts 0 0) 46))

    pub denoted_read : (bs : List ℕ) (f : Fault) → fault_of p (at bs) ≡ Ok f → Denotes p bs f
    denoted_read bs f e =
        let b = bind_ok (line_at p (at bs)) _ f e in
        subst (λ (x : List ℕ). Denotes p x f) (take-append-drop (run Name bs) bs) (site_ok (at bs) (take (run Name bs) bs) (drop (run Name bs) bs) b.0 f (named_line bs b.0 b.1) b.2)

pub faithful : (p : Plan) (s : Spot) (r : Result Fault Flaw) → r ≡ fault_of p s → Faithful p s.rest r
faithful p s r e = record { accepts = λ f d. e ∙ read_denoted s.line s.end p s.rest f d; accepted = λ f t. denoted_read s.line s.end p s.rest f (sym e ∙ t) }

pub faults_accepted : (p : Plan) {V : Type 0} (view : V → List Fault) (ss : List Spot) (r : Result V ReadError) → Answers view r (each (fault_of p) [] ss) → Accepts view (λ s f. Denotes p s.rest f) ss r
faults_accepted p view ss r a =
    accepts (fault_of p) (λ s f. Denotes p s.rest f) (λ s f d. read_denoted s.line s.end p s.rest f d) (λ s f e. denoted_read s.line s.end p s.rest f e) view ss r a
