-- The symbol that a station is shown as (APRS Protocol Reference 1.0.1, chapter 20).
use Rattle.std.specs.Prelude.{◌≡◌, ℕ, ◌+◌, Bool, true, ◌||◌, ◌&&◌, ◌==◌, nat_le, if◌then◌else◌}
use Rattle.aprs_report.specs.declared.symbol.Symbol.{Symbol}
use Rattle.aprs_report.specs.Bytes.{is_digit, is_capital}

-- The byte is the primary table /, the alternate table \, or the alternate with a digit or a
-- capital on it.
abbrev pub is_table : ℕ → Bool
is_table b = b == 47 || b == 92 || is_digit b || is_capital b

-- The byte is ! to ~.
abbrev pub is_code : ℕ → Bool
is_code b = nat_le 33 b && nat_le b 126

-- The symbol has a table and a code that can be.
pub record IsSymbol (s : Symbol) : Type 0 where
  pub table : is_table s.table ≡ true
  pub code : is_code s.code ≡ true

-- The byte of a table in a compressed position, where a to j stand for the digits.
abbrev pub compressed_table : ℕ → ℕ
compressed_table table = if is_digit table then table + 49 else table
