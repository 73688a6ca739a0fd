use Rattle.aprs_bookfile.proofs.Common.{List, Row, subst}
use Rattle.aprs_transmissions.specs.Sound.{AreSoundRows}
use Rattle.aprs_bookfile.proofs.kept_rows.KeptRows.sound.Goals as goal

pub returns-clause-sound : goal.returns-clause-sound
returns-clause-sound g c =
    subst (λ (rows : List Row). AreSoundRows rows) c.self.view_is c.sound.ensures.sound
