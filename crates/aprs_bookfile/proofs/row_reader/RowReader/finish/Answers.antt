use Rattle.aprs_bookfile.proofs.Common.{◌∙◌, sym}
use Rattle.aprs_bookfile.proofs.SameFaults.{first_is}
use Rattle.aprs_bookfile.proofs.Standing.{cut_fault}
use Rattle.aprs_bookfile.proofs.row_reader.RowReader.finish.Goals as goal

pub returns-clause-reads : goal.returns-clause-reads
returns-clause-reads g c = λ rows t h. rw (c.fault_of_ending.ensures, h.count)
    (first_is _ _ _ (cut_fault _ rows _ t _ (sym c.may_end.ensures ∙ c.if-may_end.false) h.lines))
