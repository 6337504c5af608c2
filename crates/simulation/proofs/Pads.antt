-- A gate's answer on four pins, where some stand for pins that it lacks.
use Rattle.std.proofs.Common.{◌≡◌, ℕ, zero, suc, ◌-◌, ◌<◌, ◌≤◌, Bool, true, false, cond, not, ◌&&◌, ◌||◌, ltb, List, [], ◌∷◌, ◌++◌, length, get_or, replicate, sym, refl, ap, ◌∙◌, subst, arith}
use Rattle.std.proofs.lemmas.List.{get_or-map}
use Rattle.std.proofs.lemmas.Bool.{cond-true, lt-ltb}
use Rattle.circuit.specs.Gates.{differs, all, any, odd, gate_on, filler}
use Rattle.circuit.specs.Machines.{Effect, forced, pins_seen, binary, value_at}
use Rattle.circuit.specs.declared.kinds.Kind.{Kind}
use Rattle.circuit.specs.declared.kinds.Kind.TheVariants.{And, Nand, Or, Nor, Xor, Xnor, Not, Buff}
use Rattle.circuit.specs.Survey.{FedBelow}
use Rattle.circuit.specs.declared.lines.Gate.{Gate}
use Rattle.circuit.specs.declared.lines.Line.{Line}
use Rattle.circuit.specs.declared.lines.Line.TheVariants.{Gate as GateLine}
use Rattle.simulation.specs.Lanes.{seen, pin_or}

all_pad : (bs : List Bool) (n : ℕ) → all (bs ++ replicate n true) ≡ all bs
all_pad [] zero = refl
all_pad [] (suc n) = all_pad [] n
all_pad (b ∷ bs) n = ap (λ x. b && x) (all_pad bs n)

any_pad : (bs : List Bool) (n : ℕ) → any (bs ++ replicate n false) ≡ any bs
any_pad [] zero = refl
any_pad [] (suc n) = any_pad [] n
any_pad (b ∷ bs) n = ap (λ x. b || x) (any_pad bs n)

odd_pad : (bs : List Bool) (n : ℕ) → odd (bs ++ replicate n false) ≡ odd bs
odd_pad [] zero = refl
odd_pad [] (suc n) = odd_pad [] n
odd_pad (b ∷ bs) n = ap (differs b) (odd_pad bs n)

first_pad : (bs : List Bool) (n : ℕ) → get_or (bs ++ replicate n false) 0 false ≡ get_or bs 0 false
first_pad [] zero = refl
first_pad [] (suc n) = refl
first_pad (b ∷ bs) n = refl

-- what stands for a lacking pin changes no answer
gate_pad : (k : Kind) (bs : List Bool) (n : ℕ) → gate_on k (bs ++ replicate n (filler k)) ≡ gate_on k bs
gate_pad And bs n = all_pad bs n
gate_pad Nand bs n = ap not (all_pad bs n)
gate_pad Or bs n = any_pad bs n
gate_pad Nor bs n = ap not (any_pad bs n)
gate_pad Xor bs n = odd_pad bs n
gate_pad Xnor bs n = ap not (odd_pad bs n)
gate_pad Not bs n = ap not (first_pad bs n)
gate_pad Buff bs n = first_pad bs n

module _ (e : Effect Bool) (value : ℕ → Bool) (i : ℕ) where
  -- pin p, fed by one of ps, where x stands for a pin past the last
  abbrev slot : List ℕ → Bool → ℕ → Bool
  slot ps x p = cond (ltb p (length ps)) (forced (e.pin i p) (value (get_or ps p 0))) x

  slots : (ps : List ℕ) (x : Bool) → length ps ≤ 4
      → (slot ps x 0 ∷ slot ps x 1 ∷ slot ps x 2 ∷ slot ps x 3 ∷ []) ≡ pins_seen e value i 0 ps ++ replicate (4 - length ps) x
  slots [] x le = refl
  slots (a ∷ []) x le = refl
  slots (a ∷ b ∷ []) x le = refl
  slots (a ∷ b ∷ c ∷ []) x le = refl
  slots (a ∷ b ∷ c ∷ d ∷ []) x le = refl
  slots (a ∷ b ∷ c ∷ d ∷ f ∷ ps) x le = absurd (omega arith)

  -- a gate's answer on four pins is its answer on the pins that it has
  pub four_pins : (g : Gate) → length g.pins ≤ 4
      → gate_on g.kind (pin_or e value i g 0 ∷ pin_or e value i g 1 ∷ pin_or e value i g 2 ∷ pin_or e value i g 3 ∷ []) ≡ gate_on g.kind (pins_seen e value i 0 g.pins)
  four_pins g le = ap (gate_on g.kind) (slots g.pins (filler g.kind) le) ∙ gate_pad g.kind (pins_seen e value i 0 g.pins) (4 - length g.pins)

-- what feeds a pin of the gate that drives a line stands before the line
pub pin_fed : (n p k : ℕ) (g : Gate) (l : Line) → l ≡ GateLine g → FedBelow n l → p < length g.pins → k ≡ get_or g.pins p 0 → k < n
pin_fed n p k g l is fed low at = omega (arith, subst (FedBelow n) is fed p low, at)

-- a pin that the gate has, fed by line k, whose entry in the table is x
pub pin_there : {X : Type 0} (e : Effect Bool) (lane : X → ℕ → Bool) (xs : List X) (l i p : ℕ) (g : Gate) → p < length g.pins
    → (k : ℕ) (x : X) → k ≡ get_or g.pins p 0 → k < length xs → x ≡ get_or xs k x → forced (e.pin i p) (lane x l) ≡ pin_or e (value_at binary (seen lane xs l)) i g p
pin_there e lane xs l i p g low k x fed lt read =
    ap (forced (e.pin i p)) (ap (λ y. lane y l) read ∙ sym (get_or-map (λ y. lane y l) xs k x false lt) ∙ ap (value_at binary (seen lane xs l)) fed)
    ∙ sym (cond-true _ _ _ (lt-ltb p (length g.pins) low))
