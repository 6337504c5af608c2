-- A name's bytes.
use Rattle.std.specs.Prelude.{◌≡◌, ℕ, ◌-◌, ◌<◌, List, length, replicate, Option, MatchOption}
use Rattle.circuit.specs.declared.names.Name.{Name}

abbrev pub bytes_of : Name → List ℕ
bytes_of n = n.bytes.items

-- the name of a word, with 0 past its bytes, or nothing where the word has more than sixteen bytes
abbrev pub Short : List ℕ → Option Name → Type 0
Short w r = MatchOption r (16 < length w) (λ n. (bytes_of n ≡ w) × (n.bytes.spare ≡ replicate (16 - length w) 0))
