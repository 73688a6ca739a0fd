-- Kinds of bytes.
use Rattle.std.specs.Prelude.{ℕ, Bool, ◌==◌, ◌&&◌, ◌||◌, nat_le}

-- The byte is 0 to 9.
abbrev pub is_digit : ℕ → Bool
is_digit b = nat_le 48 b && nat_le b 57

-- The byte is A to Z.
abbrev pub is_capital : ℕ → Bool
is_capital b = nat_le 65 b && nat_le b 90

-- The byte is a letter of either case, or a digit.
abbrev pub is_alphanumeric : ℕ → Bool
is_alphanumeric b = is_digit b || is_capital b || (nat_le 97 b && nat_le b 122)

-- The byte is a space to ~.
abbrev pub is_printable : ℕ → Bool
is_printable b = nat_le 32 b && nat_le b 126

-- The byte is a space.
abbrev pub is_space : ℕ → Bool
is_space b = b == 32

-- The byte is CR or LF.
abbrev pub is_line_end : ℕ → Bool
is_line_end b = b == 13 || b == 10
