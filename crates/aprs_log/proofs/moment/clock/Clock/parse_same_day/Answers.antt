use Rattle.aprs_log.proofs.Common.{◌≡◌, Some, ◌+◌, ◌*◌, arith, ap, sym, ◌∙◌, OnTrue_at}
use Rattle.aprs_log.proofs.Clocks.{IfSome-moment, halves, moment_of-same_day}
use Rattle.aprs_log.proofs.moment.clock.Clock.parse_same_day.Goals as goal

pub returns : goal.returns
returns c =
    let text = c.args.text.now in
    let date = c.args.self.now.date in
    let rest = c.split_at.result.1.now in
    let same = OnTrue_at c.if-not-has_date.false c.has_date.ensures in
    let text_is = halves 11 text date rest (sym same) c.split_at.ensures.back in
    let rest_is = halves 8 rest _ _ c.split_at-2.ensures.front c.split_at-2.ensures.back in
    let sum : c.args.self.now.midnight + c.in_ok-second.second * 1000 + c.in_ok-milli.milli
    ≡ c.millis.result + c.from.result * 1000 + c.from-2.result
    = omega (arith, c.millis.ensures.value, c.from.ensures, c.from-2.ensures) in
    IfSome-moment text c.from_millis.result _ _ c.from_millis.ensures
    (moment_of-same_day text date rest _ _ c.args.self.now.midnight c.in_ok-second.second
    c.in_ok-milli.milli
    c.requires
    (omega arith) text_is rest_is c.args.self.now.reads c.in_ok-second.ensures.says
    c.in_ok-milli.ensures.says
    ∙ ap (λ n. Some n) sum)
