-- Bytes of names and bytes between them.
use Rattle.std.specs.Prelude.{ℕ, Bool, ◌||◌, ◌==◌}
use Rattle.std.specs.Char.{is_ascii_digit, is_ascii_alphabetic}

-- a letter, a digit or an underscore
abbrev pub name_byte : ℕ → Bool
name_byte b = is_ascii_alphabetic b || (is_ascii_digit b || b == 95)

-- a space, a tab or a carriage return
abbrev pub space_byte : ℕ → Bool
space_byte b = b == 32 || (b == 9 || b == 13)
