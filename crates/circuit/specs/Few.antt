-- Lists of few items in memory of fixed size.
use Rattle.std.specs.Prelude.{◌≡◌, List, [], ◌∷◌, ◌++◌, drop}

-- a list and the memory that is spare behind it
pub record Listed (T : Type 0) : Type 0 where
  pub items : List T
  pub spare : List T

-- one item more, in the first spare place
pub record Pushed {T : Type 0} (x : T) (old new : Listed T) : Type 0 where
  pub items : new.items ≡ old.items ++ x ∷ []
  pub spare : new.spare ≡ drop 1 old.spare
