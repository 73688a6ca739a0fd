-- The bytes that a step of reading cuts off. No public clause cites this module.
use Rattle.std.specs.Prelude.{ℕ, Bool}
use Rattle.aprs_report.specs.declared.bytes.Trailing.{Trailing}
use Rattle.aprs_report.specs.declared.bytes.Trailing.TheVariants.{Spaces, LineEnds}
use Rattle.aprs_report.specs.Bytes.{is_space, is_line_end}

-- The byte is of this kind: a space, or CR or LF.
abbrev pub is_trailing : Trailing → ℕ → Bool
is_trailing Spaces b = is_space b
is_trailing LineEnds b = is_line_end b
