use Rattle.aprs_rows.proofs.Common.{◌∙◌}
use Rattle.aprs_rows.proofs.Packed.{marks_len}
use Rattle.aprs_rows.proofs.Rows.{none_exactly}
use Rattle.aprs_rows.proofs.store.packed.PackedRows.is_empty.Goals as goal

pub returns : goal.returns
returns g c =
    none_exactly _ _ _ (c.self.inside.marks.ok.0
    ∙ marks_len c.self.inside.marks.items c.self.inside.bytes.items _ c.self.view_is)
    c.is_empty.ensures
