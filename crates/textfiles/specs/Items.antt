-- The items of a text.
use Rattle.std.specs.Prelude.{◌≡◌, ℕ, ◌+◌, cond, List, [], ◌∷◌, ◌++◌, length, take, IfOk, Ok, Result, ◌==◌}
use Rattle.texts.specs.Lines.{lines_of}
use Rattle.texts.specs.Steps.{bind}
use Rattle.textfiles.specs.Cursors.{Spot, spot, run, item}
use Rattle.textfiles.specs.Flaws.{Answers}
use Rattle.textfiles.specs.declared.cursors.Class.TheVariants.{Content}
use Rattle.textfiles.specs.declared.cursors.Cursor.{Cursor}
use Rattle.textfiles.specs.declared.flaws.Flaw.{Flaw}
use Rattle.textfiles.specs.declared.flaws.ReadError.{ReadError}

-- the item of line l: what stands before a comment, without the blanks around
abbrev pub item_of : ℕ → List ℕ → Spot
item_of l bs = item l (take (run Content bs) bs)

-- the items of the lines after the first n, without those of no bytes
abbrev pub items_after : ℕ → List (List ℕ) → List Spot
items_after n [] = []
items_after n (l ∷ ls) = cond (length (item_of (n + 1) l).rest == 0) (items_after (n + 1) ls) (item_of (n + 1) l ∷ items_after (n + 1) ls)

abbrev pub items_of : List ℕ → List Spot
items_of text = items_after 0 (lines_of text)

-- each answer at an item is what m says of it
abbrev pub Means : {X : Type 0} → (Cursor → Result X Flaw → Type 0) → (Spot → Result X Flaw) → Type 0
Means {X} gives m = (c : Cursor) (r : Result X Flaw) → gives c r → r ≡ m (spot c)

-- what the items mean one after another, after those that mean xs
abbrev pub each : {X : Type 0} → (Spot → Result X Flaw) → List X → List Spot → Result (List X) Flaw
each f xs [] = Ok xs
each f xs (s ∷ ss) = bind (f s) (λ x. each f (xs ++ x ∷ []) ss)

-- the items mean these things, one for one
abbrev pub Each : {X : Type 0} → (Spot → X → Type 0) → List Spot → List X → Type 0
Each R [] [] = Unit {0}
Each R [] (x ∷ xs) = ⊥
Each R (s ∷ ss) [] = ⊥
Each R (s ∷ ss) (x ∷ xs) = R s x × Each R ss xs

-- a reader accepts exactly the items that mean something, as what they mean, unless memory is wanting
pub record Accepts {V X : Type 0} (view : V → List X) (R : Spot → X → Type 0) (ss : List Spot) (r : Result V ReadError) : Type 0 where
  pub accepts : (xs : List X) → Each R ss xs → Answers view r (Ok xs)
  pub accepted : IfOk r (λ v. Each R ss (view v))
