use Rattle.aprs_rows.proofs.Common.{arith}
use Rattle.aprs_rows.proofs.Packed.{marks_len}
use Rattle.aprs_rows.proofs.store.packed.PackedRows.len.Goals as goal

pub returns : goal.returns
returns g c =
    let n = marks_len c.self.inside.marks.items c.self.inside.bytes.items _ c.self.view_is in
    omega (arith, c.len.ensures, c.self.inside.marks.ok.0, n)
