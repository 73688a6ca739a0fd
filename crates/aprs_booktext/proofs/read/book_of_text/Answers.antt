use Rattle.aprs_booktext.proofs.Common.{ℕ, ◌≡◌, ◌<◌, ◌^◌, ◌∙◌, [], List, Ok, ap, arith, subst, sym, err_from_is_err_and, BookValue, IsSoundBook, Row}
use Rattle.aprs_bookfile.specs.Piece.{bytes_left}
use Rattle.aprs_bookfile.specs.Reader.{gap_in, is_done}
use Rattle.aprs_bookfile.specs.Reading.{IsAnswered}
use Rattle.aprs_bookfile.proofs.LastLines.{done_sound, first_refused}
use Rattle.aprs_bookfile.proofs.RowStreams.{begun, last_refused, rows_taken}
use Rattle.aprs_booktext.proofs.read.book_of_text.Goals as goal

pub book_in-requires : goal.book_in-requires
book_in-requires g c =
    let start = begun g.R.Read.remaining c.args.limit c.args.head.now c.args.source.now
    c.in_ok-stream.stream c.in_ok-stream.ensures.holds c.in_ok-stream.ensures.left in
    let got = c.in_ok-read_lines.ensures.all c.args.limit c.args.head.now c.args.source.now [] start
    in
    let held = got.got.stands in
    subst (λ (l : List Row). IsSoundBook (record { gap = c.gap.result; rows = l }))
    (sym c.take_rows.ensures.rows)
    (subst (λ (n : ℕ). IsSoundBook (record { gap = n; rows = c.read_lines.new.self.reader.rows }))
    (sym c.gap.ensures) (done_sound _ _ _ c.in_ok-read_lines.ensures.done held.2.lines.holds))

pub returns-in_err-stream : goal.returns-in_err-stream
returns-in_err-stream g c =
    let p = err_from_is_err_and c.from_residual.result c.from_residual.ensures.1 in
    rw (p.1, p.2) (first_refused g.R.Read.remaining c.args.limit c.args.head.now c.args.source.now _
    c.in_err-stream.ensures.first c.requires.head c.requires.within)

pub returns-in_err-read_lines : goal.returns-in_err-read_lines
returns-in_err-read_lines g c =
    let p = err_from_is_err_and c.from_residual-in_err-read_lines.result
    c.from_residual-in_err-read_lines.ensures.1 in
    let start = begun g.R.Read.remaining c.args.limit c.args.head.now c.args.source.now
    c.in_ok-stream.stream c.in_ok-stream.ensures.holds c.in_ok-stream.ensures.left in
    rw (p.1, p.2) (c.in_err-read_lines.ensures.fault c.args.limit c.args.head.now c.args.source.now
    [] start)

pub returns-in_default : goal.returns-in_default
returns-in_default g c =
    let start = begun g.R.Read.remaining c.args.limit c.args.head.now c.args.source.now
    c.in_ok-stream.stream c.in_ok-stream.ensures.holds c.in_ok-stream.ensures.left in
    let rows = c.read_lines.new.self.reader.rows in
    let taken = rows_taken g.R.Read.remaining c.args.limit c.args.head.now c.args.source.now
    c.read_lines.new.source c.read_lines.new.self c.take_rows.new.self rows
    c.take_rows.ensures.text c.take_rows.ensures.left
    (c.in_ok-read_lines.ensures.all c.args.limit c.args.head.now c.args.source.now [] start) in
    let few : c.take_rows.new.self.reader.count < 2 ^ 64 = omega (
      arith,
      c.take_rows.ensures.size,
      c.in_ok-read_lines.ensures.size,
      c.in_ok-stream.ensures.size,
      c.requires.limit,
    ) in
    last_refused g.R.Read.remaining c.args.limit c.args.head.now c.args.source.now
    c.read_lines.new.source c.take_rows.new.self rows c.memory_at_last.result
    c.memory_at_last.ensures (ap is_done c.take_rows.ensures.stage ∙ c.in_ok-read_lines.ensures.done)
    (ap bytes_left c.take_rows.ensures.piece ∙ c.in_ok-read_lines.ensures.none) few taken

pub returns-in_err-end : goal.returns-in_err-end
returns-in_err-end g c =
    let p = err_from_is_err_and c.from_residual-in_err-end.result
    c.from_residual-in_err-end.ensures.1 in
    let start = begun g.R.Read.remaining c.args.limit c.args.head.now c.args.source.now
    c.in_ok-stream.stream c.in_ok-stream.ensures.holds c.in_ok-stream.ensures.left in
    let rows = c.read_lines.new.self.reader.rows in
    let taken = rows_taken g.R.Read.remaining c.args.limit c.args.head.now c.args.source.now
    c.read_lines.new.source c.read_lines.new.self c.take_rows.new.self rows
    c.take_rows.ensures.text c.take_rows.ensures.left
    (c.in_ok-read_lines.ensures.all c.args.limit c.args.head.now c.args.source.now [] start) in
    rw (p.1, p.2) (c.in_err-end.ensures.answer c.args.limit c.args.head.now c.args.source.now rows
    taken)

pub returns : goal.returns
returns g c =
    let start = begun g.R.Read.remaining c.args.limit c.args.head.now c.args.source.now
    c.in_ok-stream.stream c.in_ok-stream.ensures.holds c.in_ok-stream.ensures.left in
    let rows = c.read_lines.new.self.reader.rows in
    let taken = rows_taken g.R.Read.remaining c.args.limit c.args.head.now c.args.source.now
    c.read_lines.new.source c.read_lines.new.self c.take_rows.new.self rows
    c.take_rows.ensures.text c.take_rows.ensures.left
    (c.in_ok-read_lines.ensures.all c.args.limit c.args.head.now c.args.source.now [] start) in
    let gap : gap_in c.take_rows.new.self.reader.stage ≡ c.gap.result =
    ap gap_in c.take_rows.ensures.stage ∙ sym c.gap.ensures in
    let book : record { gap = gap_in c.take_rows.new.self.reader.stage; rows = rows } ≡ c.in-Ok.book
    = ap (λ (n : ℕ). record { gap = n; rows = rows }) gap
    ∙ ap (λ (l : List Row). record { gap = c.gap.result; rows = l }) (sym c.take_rows.ensures.rows)
    ∙ sym c.in-Ok.ensures in
    subst (λ (b : BookValue). IsAnswered g.R.Read.remaining c.args.limit c.args.head.now (Ok b)
    c.args.source.now c.end.new.source) book
    (c.in_ok-end.ensures.answer c.args.limit c.args.head.now c.args.source.now rows taken)
