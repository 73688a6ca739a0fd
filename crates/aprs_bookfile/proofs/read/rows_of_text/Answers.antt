use Rattle.aprs_bookfile.proofs.Common.{List, sym, subst, err_from_is_err_and, IfErr-weaker, IfOk-weaker, IsSoundBook, Row}
use Rattle.aprs_bookfile.specs.ReadRows.{book_read, StopsAfter}
use Rattle.aprs_bookfile.specs.Reading.{IsAnswered}
use Rattle.aprs_bookfile.proofs.LastLines.{first_refused, first_stops}
use Rattle.aprs_bookfile.proofs.RowStreams.{begun}
use Rattle.aprs_bookfile.proofs.read.rows_of_text.Goals as goal

pub returns-in_err-stream-clause-answer : goal.returns-in_err-stream-clause-answer
returns-in_err-stream-clause-answer g c =
    let p = err_from_is_err_and c.from_residual.result c.from_residual.ensures.1 in
    rw (p.1, p.2) (first_refused g.R.Read.remaining c.args.limit c.args.head.now c.args.source.now _
    c.in_err-stream.ensures.first c.requires.head c.requires.within)

pub returns-in_err-stream-clause-stops : goal.returns-in_err-stream-clause-stops
returns-in_err-stream-clause-stops g c =
    let p = err_from_is_err_and c.from_residual.result c.from_residual.ensures.1 in
    rw (p.1, p.2) (first_stops _ c.args.rows.now c.in_err-stream.ensures.first c.requires.empty)

pub returns-clause-answer : goal.returns-clause-answer
returns-clause-answer g c =
    let start = begun g.R.Read.remaining c.args.limit c.args.head.now c.args.source.now
    c.in_ok-stream.stream c.in_ok-stream.ensures.holds c.in_ok-stream.ensures.left in
    subst (λ (r : List Row). IsAnswered g.R.Read.remaining c.args.limit c.args.head.now
    (book_read c.read_text-answer.result r) c.args.source.now c.read_text-answer.new.source)
    (sym c.take_rows.ensures.rows)
    (c.read_text-answer.ensures.answer c.args.limit c.args.head.now c.args.source.now start)

pub returns-clause-sound : goal.returns-clause-sound
returns-clause-sound g c =
    let start = begun g.R.Read.remaining c.args.limit c.args.head.now c.args.source.now
    c.in_ok-stream.stream c.in_ok-stream.ensures.holds c.in_ok-stream.ensures.left in
    IfOk-weaker c.read_text-answer.result _ _
    (λ gap sound. subst (λ (r : List Row). IsSoundBook (record { gap = gap; rows = r }))
    (sym c.take_rows.ensures.rows)
    (sound c.args.limit c.args.head.now c.args.source.now start)) c.read_text-answer.ensures.sound

pub returns-clause-stops : goal.returns-clause-stops
returns-clause-stops g c =
    let start = begun g.R.Read.remaining c.args.limit c.args.head.now c.args.source.now
    c.in_ok-stream.stream c.in_ok-stream.ensures.holds c.in_ok-stream.ensures.left in
    IfErr-weaker c.read_text-answer.result _ _
    (λ f stops. subst (StopsAfter f) (sym c.take_rows.ensures.rows)
    (stops c.args.limit c.args.head.now c.args.source.now start)) c.read_text-answer.ensures.stops
