use Rattle.aprs_bookfile.proofs.Common.{◌∙◌, ap, length, Millis}
use Rattle.aprs_bookfile.proofs.RowReading.{moment_len}
use Rattle.aprs_bookfile.proofs.TextParts.{head_is}
use Rattle.aprs_bookfile.proofs.write.row_start.Goals as goal

pub returns-clause-text : goal.returns-clause-text
returns-clause-text c =
    let first = c.copy_from_slice.ensures.after ∙ c.text.ensures in
    head_is _ _ c.copy_from_slice.new.self c.copy_from_slice-2.new.self
    (ap length first ∙ moment_len Millis c.args.first) first
    (c.copy_from_slice-2.ensures.after ∙ c.text-2.ensures)
