-- The blanks at the end of a line.
use Rattle.std.proofs.Common.{◌≡◌, ℕ, ◌-◌, ◌<◌, ◌≤◌, true, false, List, length, get_or, arith}
use Rattle.std.proofs.lemmas.List.Sums.{suffix_len_is}
use Rattle.textfiles.specs.Cursors.{has, shut}
use Rattle.textfiles.specs.declared.cursors.Class.TheVariants.{Blank}

-- the bytes from place n on are the blanks at the end
pub shut_is : (s : List ℕ) (n : ℕ) → n ≤ length s → ((k : ℕ) → n ≤ k → k < length s → has Blank (get_or s k 0) ≡ true) → (0 < n → has Blank (get_or s (n - 1) 0) ≡ false) → n ≡ shut s
shut_is s n within blank stop = let e = suffix_len_is (has Blank) s n 0 within blank stop in omega arith
