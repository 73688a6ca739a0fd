use Rattle.aprs_bookfile.proofs.LastRows.{last_is_sound}
use Rattle.aprs_bookfile.proofs.row_reader.RowReader.row.Goals as goal

pub returns-in-Rows-clause-own : goal.returns-in-Rows-clause-own
returns-in-Rows-clause-own g c =
    last_is_sound c.args.self.now.rows c.last.result c.sound.ensures.sound c.sound.ensures.short
    c.last.ensures.some
