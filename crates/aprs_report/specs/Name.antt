-- A name of an object or item, or an addressee, as its field has it.
use Rattle.std.specs.Prelude.{◌≡◌, ℕ, ◌<◌, true, List, length}
use Rattle.std.specs.List.{list_all}
use Rattle.aprs_report.specs.Bytes.{is_printable, is_space}
use Rattle.aprs_report.specs.Trailing.{IsTrimmed}

-- The field is printable, and the name is what is left of it without the spaces at its end: at
-- least one byte.
pub record IsPaddedName (name field : List ℕ) : Type 0 where
  pub printable : list_all is_printable field ≡ true
  pub cut : IsTrimmed is_space name field
  pub nonempty : 0 < length name
