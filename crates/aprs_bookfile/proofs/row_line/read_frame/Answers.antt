use Rattle.aprs_bookfile.proofs.Common.{◌∙◌, ap, sym, subst, Ok}
use Rattle.aprs_bookfile.specs.RowFields.{SpellsFrame}
use Rattle.aprs_bookfile.proofs.Spellings.{frame_is}
use Rattle.aprs_bookfile.proofs.row_line.read_frame.Goals as goal

pub returns-in-Ok-clause-ok : goal.returns-in-Ok-clause-ok
returns-in-Ok-clause-ok c =
    let same = frame_is c.in-Some.bytes.now c.reread.new.self c.in-Ok.ensures.read in
    subst (SpellsFrame c.args.field.now) (sym same)
    (record { spelled = c.in-Some.ensures.some; is = c.in-Ok.ensures.read ∙ ap Ok same })
