use Rattle.aprs_bookfile.proofs.Common.{[], Ok, ℕ, ap, ◌∙◌, subst, sym, err_from_is_err_and, IsSoundBook}
use Rattle.aprs_bookfile.specs.Reader.{gap_in}
use Rattle.aprs_bookfile.specs.Reading.{IsAnswered}
use Rattle.aprs_bookfile.specs.declared.row_reader.RowReader.{RowReader}
use Rattle.aprs_bookfile.proofs.LastLines.{done_sound}
use Rattle.aprs_bookfile.proofs.RowStreams.{text_got}
use Rattle.aprs_bookfile.proofs.read.read_text.Goals as goal

pub returns-in_err-read_lines-clause-answer : goal.returns-in_err-read_lines-clause-answer
returns-in_err-read_lines-clause-answer g c =
    let p = err_from_is_err_and c.from_residual.result c.from_residual.ensures.1 in
    rw (p.1, p.2) (λ limit head first h. c.in_err-read_lines.ensures.fault limit head first [] h)

pub returns-in_err-read_lines-clause-stops : goal.returns-in_err-read_lines-clause-stops
returns-in_err-read_lines-clause-stops g c =
    let p = err_from_is_err_and c.from_residual.result c.from_residual.ensures.1 in
    rw (p.1, p.2) (λ limit head first h. c.in_err-read_lines.ensures.stops limit head first [] h
    (c.in_err-read_lines.ensures.keeping ∙ c.requires.each))

pub returns-in_err-end-clause-answer : goal.returns-in_err-end-clause-answer
returns-in_err-end-clause-answer g c =
    let p = err_from_is_err_and c.from_residual-in_err-end.result
    c.from_residual-in_err-end.ensures.1 in
    rw (p.1, p.2) (λ limit head first h. c.in_err-end.ensures.answer limit head first _
    (text_got g.R.Read.remaining limit head first _ _ _
    (c.in_ok-read_lines.ensures.all limit head first [] h)))

pub returns-in_err-end-clause-stops : goal.returns-in_err-end-clause-stops
returns-in_err-end-clause-stops g c =
    let p = err_from_is_err_and c.from_residual-in_err-end.result
    c.from_residual-in_err-end.ensures.1 in
    rw (p.1, p.2) (λ limit head first h e. absurd (c.in_err-end.ensures.refused e))

pub returns-clause-answer : goal.returns-clause-answer
returns-clause-answer g c = λ limit head first h.
    subst (λ (r : RowReader _). IsAnswered g.R.Read.remaining limit head
    (Ok (record { gap = c.gap.result; rows = r.rows })) first c.end.new.source)
    (sym c.in_ok-end.ensures.reader)
    (subst (λ (n : ℕ). IsAnswered g.R.Read.remaining limit head
    (Ok (record { gap = n; rows = c.read_lines.new.self.reader.rows })) first c.end.new.source)
    (sym (c.gap.ensures ∙ ap (λ (r : RowReader _). gap_in r.stage) c.in_ok-end.ensures.reader))
    (c.in_ok-end.ensures.answer limit head first c.read_lines.new.self.reader.rows
    (text_got g.R.Read.remaining limit head first c.read_lines.new.source c.read_lines.new.self
    c.read_lines.new.self.reader.rows (c.in_ok-read_lines.ensures.all limit head first [] h))))

pub returns-clause-sound : goal.returns-clause-sound
returns-clause-sound g c = λ limit head first h.
    let got = c.in_ok-read_lines.ensures.all limit head first [] h in
    let held = got.got.stands in
    subst (λ (r : RowReader _). IsSoundBook (record { gap = c.gap.result; rows = r.rows }))
    (sym c.in_ok-end.ensures.reader)
    (subst (λ (n : ℕ). IsSoundBook
    (record { gap = n; rows = c.read_lines.new.self.reader.rows }))
    (sym (c.gap.ensures ∙ ap (λ (r : RowReader _). gap_in r.stage) c.in_ok-end.ensures.reader))
    (done_sound _ _ _ c.in_ok-read_lines.ensures.done held.2.lines.holds))
