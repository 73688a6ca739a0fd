use Rattle.std.proofs.Common.{◌≤◌, ◌+◌, ◌-◌, ◌∙◌, length, drop, ap, arith, length-take}
use Rattle.aprs_fold.proofs.Lines.{given_ok}
use Rattle.aprs_fold.proofs.Lent.{lines_left}
use Rattle.aprs_fold.proofs.range.book_range.BookRange.read_lines.Goals as goal

pub returns-clause-gives : goal.returns-clause-gives
returns-clause-gives g c bytes known =
    let own = c.args.self.now in
    let room = c.read_at.new.buf in
    let n = c.in_ok-count.count in
    let bound : n ≤ length room = c.in_ok-count.ensures.bound.0 in
    let within : n ≤ own.end - own.at =
    omega (
      arith,
      bound,
      c.read_at.auto.buf,
      c.min-most.ensures,
      length-take c.min-most.result c.args.buf.now,
    ) in
    lines_left own.line.items own.given own.is_last own.rows c.in-Some.rows own.at own.end n bytes
    room (drop c.min-most.result c.args.buf.now) c.requires.given c.requires.more
    (given_ok _ bytes own.at room n known c.in_ok-count.ensures.gives) bound within
    (c.in-Some.ensures.1 ∙ ap (λ k. own.rows + k) c.count_lines.ensures)
