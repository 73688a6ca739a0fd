-- The row that one of several streams has in front.
use Rattle.aprs_fold.proofs.Common.{◌≡◌, ◌<◌, ◌∙◌, ℕ, List, [], length, get_or, None, Some, ap, last_or, Row}
use Rattle.aprs_rows.proofs.Fronts.{row_is}
use Rattle.aprs_bookfile.specs.RowStream.{front_of}
use Rattle.aprs_bookfile.specs.declared.row_stream.RowStream.{RowStream}
use Rattle.aprs_fold.specs.Fronts.{in_front, row_at}

module _ {A : Type 0} (streams : List (RowStream A)) (k : ℕ) (s : RowStream A)
    (lt : k < length streams) (is : s ≡ get_or streams k s) where
  pub row_none : front_of s ≡ [] → row_at streams k ≡ None
  row_none none = row_is in_front streams k s lt is ∙ ap (last_or None) none

  pub row_some : (x : Row) → last_or None (front_of s) ≡ Some x → row_at streams k ≡ Some x
  row_some x some = row_is in_front streams k s lt is ∙ some
