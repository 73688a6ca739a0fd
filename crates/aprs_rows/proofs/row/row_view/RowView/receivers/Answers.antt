use Rattle.aprs_rows.proofs.Common.{◌∙◌, sym, ap, join_with_byte, join_with_byte-slice_split, Row}
use Rattle.aprs_rows.proofs.row.row_view.RowView.receivers.Goals as goal

pub returns-clause-text : goal.returns-clause-text
returns-clause-text c =
    sym (join_with_byte-slice_split 44 c.self.inside.names.now)
    ∙ ap (λ (x : Row). join_with_byte 44 x.receivers) c.self.view_is
