use Rattle.aprs_bookfile.proofs.LastRows.{last_is_sound}
use Rattle.aprs_bookfile.proofs.row_reader.RowReader.taken.Goals as goal

pub returns-clause-own : goal.returns-clause-own
returns-clause-own g c =
    last_is_sound _ c.last_lent.result c.sound.ensures.sound c.sound.ensures.short
    c.last_lent.ensures.some
