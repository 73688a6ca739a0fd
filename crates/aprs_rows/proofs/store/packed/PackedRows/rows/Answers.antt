use Rattle.aprs_rows.proofs.Common.{List, Row, subst, AllByRecursion}
use Rattle.aprs_transmissions.specs.Sound.{AreSoundRows}
use Rattle.aprs_rows.specs.Packed.{AreShort}
use Rattle.aprs_rows.specs.Told.{HasNamesAndFrame}
use Rattle.aprs_rows.proofs.Packed.{marks_short, marks_sound, marks_told}
use Rattle.aprs_rows.proofs.store.packed.PackedRows.rows.Goals as goal

pub returns-clause-sound : goal.returns-clause-sound
returns-clause-sound g c =
    subst (λ (rows : List Row). AreSoundRows rows) c.self.view_is
    (marks_sound c.self.inside.marks.items c.self.inside.bytes.items c.self.invariant.0)

pub returns-clause-short : goal.returns-clause-short
returns-clause-short g c =
    subst (λ (rows : List Row). AreShort rows) c.self.view_is
    (marks_short c.self.inside.marks.items c.self.inside.bytes.items c.self.invariant.0)

pub returns-clause-told : goal.returns-clause-told
returns-clause-told g c =
    subst (λ (rows : List Row). AllByRecursion HasNamesAndFrame rows) c.self.view_is
    (marks_told c.self.inside.marks.items c.self.inside.bytes.items c.self.invariant.0)
