use Rattle.std.proofs.Common.{◌≡◌, ◌≤◌, ◌-◌, ◌∙◌, length, take, drop, ap, arith, length-drop}
use Rattle.std.proofs.lemmas.List.{take_all}
use Rattle.aprs_fold.specs.Lent.{after_line}
use Rattle.aprs_fold.proofs.Lent.{gives_line}
use Rattle.aprs_fold.proofs.range.book_range.BookRange.give_line.Goals as goal

pub returns-clause-gives : goal.returns-clause-gives
returns-clause-gives g c bytes =
    let own = c.args.self.now in
    let read = c.as_slice.result.now in
    let rest : take (length read - own.given) (drop own.given read) ≡ drop own.given own.line.items
    = take_all (length read - own.given) (drop own.given read)
    (omega (arith, length-drop own.given read)) ∙ ap (drop own.given) c.as_slice.ensures.value in
    let le : c.min-count.result ≤ length (drop own.given own.line.items) =
    omega (arith, ap length rest, c.min-count.ensures) in
    gives_line own.line.items own.given c.min-count.result
    (after_line own.is_last own.rows own.at own.end bytes) c.copy_from_slice.new.self
    (drop c.min-count.result c.args.buf.now) le
    (c.copy_from_slice.ensures.after ∙ ap (take c.min-count.result) rest)
