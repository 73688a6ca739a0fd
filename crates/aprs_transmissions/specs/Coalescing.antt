-- Rows in order, and the set that rows stand for. The rows are of any books and of single
-- receptions, in one list.
use Rattle.std.specs.Prelude.{List}
use Rattle.aprs_log.specs.Reception.{Received}
use Rattle.aprs_transmissions.specs.Lists.{◌∈◌, Ordered, SameMembers}
use Rattle.aprs_transmissions.specs.Order.{IsUpTo}
use Rattle.aprs_transmissions.specs.Row.{Row, row_cmp}
use Rattle.aprs_transmissions.specs.Sound.{IsSoundRow}
use Rattle.aprs_transmissions.specs.Witnesses.{witnesses}

-- Rows in the order of key and first moment; equal ones stand in any order.
abbrev pub AreInOrder : List Row → Type 0
AreInOrder rows = Ordered (IsUpTo row_cmp) rows

-- The rows stand for the set S: each is sound by itself, and the members of S are their witnesses.
pub record StandFor (rows : List Row) (S : List Received) : Type 0 where
  pub each : (x : Row) → x ∈ rows → IsSoundRow x
  pub members : SameMembers (witnesses rows) S
