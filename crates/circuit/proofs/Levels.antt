-- The levels of a circuit's lines.
use Rattle.std.proofs.Common.{◌≡◌, ℕ, zero, suc, ◌+◌, ◌<◌, ◌≤◌, max, fold, List, [], ◌∷◌, ◌++◌, length, get_or, drop, unwrap_or, sym, refl, ap, ◌∙◌, add-zero, subst, zero-add, arith}
use Rattle.std.proofs.lemmas.List.{at_drop_more, get_or_append_left, get_or_default, get_or_push, length_push}
use Rattle.std.proofs.lemmas.Grind.{get_or_default_zero}
use Rattle.circuit.specs.Shape.{blank, pin_count, pin_from, pins_of, Fed}
use Rattle.circuit.specs.Survey.{highest, under, level_of, levels_from, levels, Levelled}
use Rattle.std.specs.List.{All, reduce}
use Rattle.circuit.specs.declared.lines.Gate.{Gate as GateT}
use Rattle.circuit.specs.declared.lines.Line.{Line}
use Rattle.circuit.specs.declared.lines.Line.TheVariants.{Input, Gate}

-- the largest by a fold
fold_max : (a : ℕ) (xs : List ℕ) → fold max a xs ≡ max a (highest xs)
fold_max a [] = omega arith
fold_max a (x ∷ xs) = omega (arith, fold_max (max a x) xs)

pub highest_reduce : (xs : List ℕ) → unwrap_or (reduce max xs) 0 ≡ highest xs
highest_reduce [] = refl
highest_reduce (x ∷ xs) = fold_max x xs

-- one number more at the end
pub highest_push : (xs : List ℕ) (x : ℕ) → highest (xs ++ x ∷ []) ≡ max (highest xs) x
highest_push [] x = omega arith
highest_push (y ∷ xs) x = omega (arith, highest_push xs x)

-- a line that is read at a place, at the default that clauses write
pub line_at : (ls ms : List Line) (i : ℕ) (l : Line) → i < length ms → ms ≡ ls → l ≡ get_or ms i l → get_or ls i blank ≡ l
line_at ls ms i l here same read = ap (λ ks. get_or ks i blank) (sym same) ∙ get_or_default ms i blank l here ∙ sym read

-- a gate's pins are fed by the lines before it
pub fed_at : (ls : List Line) (i : ℕ) (g : GateT) → Fed ls → i < length ls → get_or ls i blank ≡ Gate g → All (λ p. p < i) (pins_of (Gate g))
fed_at ls i g fed here is k d lt =
    let below = subst (λ l. k < pin_count l → pin_from l k < i) is (fed i k here) lt in
    omega (arith, below, get_or_default_zero g.pins k d lt)

-- two tables that agree at the pins have one highest level there
under_same : (ts us ps : List ℕ) → ((p : ℕ) → p < length ps → get_or ts (get_or ps p 0) 0 ≡ get_or us (get_or ps p 0) 0) → highest (under ts ps) ≡ highest (under us ps)
under_same ts us [] same = refl
under_same ts us (p ∷ ps) same =
    let e = same 0 (omega arith) in
    let r = under_same ts us ps (λ q l. same (suc q) (omega arith)) in
    omega arith

-- two tables that agree at a line's pins give it one level
level_same : (ts us : List ℕ) (l : Line) → ((p : ℕ) → p < pin_count l → get_or ts (pin_from l p) 0 ≡ get_or us (pin_from l p) 0) → level_of ts l ≡ level_of us l
level_same ts us (Input j) same = refl
level_same ts us (Gate g) same = ap (λ n. 1 + n) (under_same ts us g.pins same)

-- no level in a table is above its highest, so a line's is at most one above
get_or_low : (ts : List ℕ) (p : ℕ) → get_or ts p 0 ≤ highest ts
get_or_low [] p = omega arith
get_or_low (t ∷ ts) zero = omega arith
get_or_low (t ∷ ts) (suc p) = omega (arith, get_or_low ts p)

pub under_low : (ts ps : List ℕ) → highest (under ts ps) ≤ highest ts
under_low ts [] = omega arith
under_low ts (p ∷ ps) = omega (arith, get_or_low ts p, under_low ts ps)

pub level_low : (ts : List ℕ) (l : Line) → level_of ts l ≤ highest ts + 1
level_low ts (Input j) = omega arith
level_low ts (Gate g) = omega (arith, under_low ts g.pins)

-- the levels of what is left, one line on
pub levels_step : (ts us : List ℕ) (ls : List Line) (i v : ℕ) → i < length ls → v ≡ level_of ts (get_or ls i blank) → us ≡ ts ++ v ∷ [] → levels_from us (drop (i + 1) ls) ≡ levels_from ts (drop i ls)
levels_step ts us ls i v h level grown =
    ap (λ ws. levels_from ws (drop (i + 1) ls)) (grown ∙ ap (λ n. ts ++ n ∷ []) level)
    ∙ sym (at_drop_more (levels_from ts) ls i blank h)

-- the levels so far stay as they are
levels_keep : (ts : List ℕ) (ls : List Line) (k : ℕ) → k < length ts → get_or (levels_from ts ls) k 0 ≡ get_or ts k 0
levels_keep ts [] k h = refl
levels_keep ts (l ∷ ls) k h =
    levels_keep (ts ++ level_of ts l ∷ []) ls k (omega (arith, length_push ts (level_of ts l)))
    ∙ get_or_append_left ts (level_of ts l ∷ []) 0 k h

levels_length : (ts : List ℕ) (ls : List Line) → length (levels_from ts ls) ≡ length ts + length ls
levels_length ts [] = omega arith
levels_length ts (l ∷ ls) = omega (arith, levels_length (ts ++ level_of ts l ∷ []) ls, length_push ts (level_of ts l))

-- the lines after those that have the levels ts, each fed by earlier lines, have the levels that their pins give
levels_right : (ts : List ℕ) (ls : List Line) → ((i p : ℕ) → i < length ls → p < pin_count (get_or ls i blank) → pin_from (get_or ls i blank) p < length ts + i) → (i : ℕ) → i < length ls → get_or (levels_from ts ls) (length ts + i) 0 ≡ level_of (levels_from ts ls) (get_or ls i blank)
levels_right ts [] fed i h = omega arith
levels_right ts (l ∷ ls) fed zero h =
    let v = level_of ts l in
    rw add-zero
    (levels_keep (ts ++ v ∷ []) ls (length ts) (omega (arith, length_push ts v))
    ∙ get_or_push ts v 0 (length ts) refl
    ∙ level_same ts (levels_from ts (l ∷ ls)) l (λ p b. sym (levels_keep ts (l ∷ ls) (pin_from l p) (omega (arith, fed 0 p h b)))))
levels_right ts (l ∷ ls) fed (suc i) h =
    let v = level_of ts l in
    let on : length ts + suc i ≡ length (ts ++ v ∷ []) + i = omega (arith, length_push ts v) in
    ap (λ n. get_or (levels_from ts (l ∷ ls)) n 0) on
    ∙ levels_right (ts ++ v ∷ []) ls (λ j p b q. omega (arith, length_push ts v, fed (suc j) p (omega arith) q)) i (omega arith)

pub levelled : (ls : List Line) → Fed ls → Levelled ls
levelled ls fed =
    record {
      one_each = omega (arith, levels_length [] ls);
      by_pins = λ i h. ap (λ n. get_or (levels ls) n 0) (sym (zero-add i)) ∙ levels_right [] ls (λ j p b q. omega (arith, fed j p b q)) i h;
    }
