-- Numbers and names of the causes for which a row is refused.
use Rattle.std.specs.Prelude.{ℕ, List, codes}
use Rattle.aprs_transmissions.specs.declared.row_cause.RowCause.{RowCause}
use Rattle.aprs_transmissions.specs.declared.row_cause.RowCause.TheVariants as cause

-- The number of each cause.
abbrev pub row_cause_number : RowCause → ℕ
row_cause_number cause.Order = 1
row_cause_number cause.Span = 2
row_cause_number cause.Near = 3
row_cause_number cause.Receivers = 4
row_cause_number cause.NotGreatest = 5
row_cause_number cause.Memory = 6

-- The name of each cause.
abbrev pub row_cause_name : RowCause → List ℕ
row_cause_name cause.Order = codes "Order"
row_cause_name cause.Span = codes "Span"
row_cause_name cause.Near = codes "Near"
row_cause_name cause.Receivers = codes "Receivers"
row_cause_name cause.NotGreatest = codes "NotGreatest"
row_cause_name cause.Memory = codes "Memory"
