use Rattle.aprs_bookfile.proofs.LastRows.{last_is_sound}
use Rattle.aprs_bookfile.proofs.row_reader.RowReader.front.Goals as goal

pub returns-in-Rows-clause-own : goal.returns-in-Rows-clause-own
returns-in-Rows-clause-own g c =
    last_is_sound c.args.self.now.rows c.last_lent.result c.sound.ensures.sound c.sound.ensures.short
    c.last_lent.ensures.some
