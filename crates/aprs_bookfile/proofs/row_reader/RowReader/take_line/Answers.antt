use Rattle.aprs_bookfile.proofs.Common.{◌++◌, [], subst}
use Rattle.aprs_bookfile.proofs.HeldLines.{none_held}
use Rattle.aprs_bookfile.proofs.KeptRows.{kept_fault, kept_stop, reads_line}
use Rattle.aprs_bookfile.proofs.Standing.{held_stands}
use Rattle.aprs_bookfile.specs.Reader.{HasReadLines, is_first}
use Rattle.aprs_bookfile.proofs.row_reader.RowReader.take_line.Goals as goal

pub returns-in-Ok-clause-reads : goal.returns-in-Ok-clause-reads
returns-in-Ok-clause-reads g c = λ rows t h lacks.
    reads_line c.enter.new.self rows c.args.line.now (t ++ c.args.line.now) c.args.self.now.count
    c.args.self.now.keeping c.judge-judged.new.rows c.args.self.now.stage c.in-Ok.stage
    c.enter.result c.enter.ensures.keeping c.enter.ensures.rows c.enter.ensures.row
    (held_stands _ rows [] t c.args.line.now c.requires.going lacks
    (subst (λ l. HasReadLines c.args.self.now.stage rows l t)
    (none_held (is_first c.args.self.now.stage) h.line (rw c.requires.none at h.held)) h.lines))
    h.count (c.in-Ok.ensures.judged rows h.count h.kept) c.enter.ensures.stage
    (rw c.requires.none at c.enter.ensures.line) c.enter.ensures.count

pub returns-in-Err-clause-fault : goal.returns-in-Err-clause-fault
returns-in-Err-clause-fault g c = λ rows t more h lacks. rw c.fault.ensures
    (kept_fault c.args.self.now.keeping c.args.self.now.stage rows c.args.line.now
    (t ++ c.args.line.now) more _ _ _ (c.in-Err.ensures.judged rows h.count h.kept)
    (held_stands _ rows [] t c.args.line.now c.requires.going lacks
    (subst (λ l. HasReadLines c.args.self.now.stage rows l t)
    (none_held (is_first c.args.self.now.stage) h.line (rw c.requires.none at h.held)) h.lines))
    h.count)

pub returns-in-Err-clause-stops : goal.returns-in-Err-clause-stops
returns-in-Err-clause-stops g c = λ rows t h each. rw c.fault.ensures
    (kept_stop _ _ rows c.args.line.now _ _ _ _ (c.in-Err.ensures.judged rows h.count h.kept)
    c.requires.going h.lines.holds h.count each)

pub returns-in-Ok-clause-moves : goal.returns-in-Ok-clause-moves
returns-in-Ok-clause-moves g c = λ last.
    rw (c.enter.ensures.row, c.enter.ensures.stage, c.enter.ensures.rows, c.enter.ensures.taken)
    (c.in-Ok.ensures.moves last)
