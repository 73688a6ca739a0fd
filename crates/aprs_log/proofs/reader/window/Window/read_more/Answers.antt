use Rattle.aprs_log.proofs.Common.{◌≤◌, ◌++◌, ◌∙◌, ap, length, take, arith, length-take-le}
use Rattle.aprs_log.proofs.Windows.{grown}
use Rattle.aprs_log.proofs.reader.window.Window.read_more.Goals as goal

pub returns-clause-more : goal.returns-clause-more
returns-clause-more g c =
    let w = c.move_to_front.new.self in
    let within : w.end ≤ length w.bytes = omega arith in
    let n = c.in_ok-count.count in
    let more = take n c.read_some.new.room in
    let few = c.in_ok-count.ensures.some.2 in (
      more,
      length-take-le n c.read_some.new.room few,
      grown w.bytes c.read_some.new.room w.start w.end _ n w.ordered within few
          ∙ ap (λ l. l ++ more) c.move_to_front.ensures.items,
      c.in_ok-count.ensures.bytes,
    )
