use Rattle.aprs_bookfile.proofs.Common.{◌∙◌, arith}
use Rattle.aprs_bookfile.proofs.HeldLines.{kept_line}
use Rattle.aprs_bookfile.proofs.KeptRows.{kept_fault, kept_stop, reads_line}
use Rattle.aprs_bookfile.proofs.row_reader.RowReader.take_kept_line.Goals as goal

pub returns-in-Ok-clause-reads : goal.returns-in-Ok-clause-reads
returns-in-Ok-clause-reads g c = λ rows t h.
    reads_line c.enter.new.self rows h.line t c.args.self.now.count
    c.args.self.now.keeping c.judge-judged.new.rows c.args.self.now.stage c.in-Ok.stage
    c.enter.result c.enter.ensures.keeping c.enter.ensures.rows c.enter.ensures.row h.lines h.count
    (kept_line c.args.self.now.keeping c.args.self.now.stage _ rows c.judge-judged.new.rows
    c.args.self.now.line h.line (omega (arith, h.count)) h.held
    (rw c.as_slice.ensures.value at (c.in-Ok.ensures.judged rows h.count h.kept)))
    c.enter.ensures.stage (c.enter.ensures.line ∙ c.clear.ensures.items) c.enter.ensures.count

pub returns-in-Err-clause-fault : goal.returns-in-Err-clause-fault
returns-in-Err-clause-fault g c = λ rows t more h. rw c.fault.ensures
    (kept_fault c.args.self.now.keeping c.args.self.now.stage rows h.line t more
    _ _ _ (kept_line c.args.self.now.keeping c.args.self.now.stage _ rows c.judge-judged.new.rows
    c.args.self.now.line h.line (omega (arith, h.count)) h.held
    (rw c.as_slice.ensures.value at (c.in-Err.ensures.judged rows h.count h.kept)))
    h.lines h.count)

pub returns-in-Err-clause-stops : goal.returns-in-Err-clause-stops
returns-in-Err-clause-stops g c = λ rows t h each. rw c.fault.ensures
    (kept_stop _ _ rows _ _ _ _ _ (c.in-Err.ensures.judged rows h.count h.kept)
    c.requires.going h.lines.holds h.count each)

pub returns-in-Ok-clause-moves : goal.returns-in-Ok-clause-moves
returns-in-Ok-clause-moves g c = λ last.
    rw (c.enter.ensures.row, c.enter.ensures.stage, c.enter.ensures.rows, c.enter.ensures.taken)
    (c.in-Ok.ensures.moves last)
