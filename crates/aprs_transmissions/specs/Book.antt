-- The book of a set of receptions.
use Rattle.std.specs.Prelude.{ℕ, List, ◌↔◌}
use Rattle.aprs_log.specs.Reception.{Received}
use Rattle.aprs_transmissions.specs.Lists.{◌∈◌, Ordered}
use Rattle.aprs_transmissions.specs.Order.{IsBelow}
use Rattle.aprs_transmissions.specs.Row.{Row, RowOf, row_cmp}

-- The rows ascend, and are exactly the rows of the transmissions in S under this gap in
-- milliseconds.
pub record BookOf (gap : ℕ) (S : List Received) (rows : List Row) : Type 0 where
  pub ascending : Ordered (IsBelow row_cmp) rows
  pub exactly : (x : Row) → (x ∈ rows) ↔ RowOf gap S x
