use Rattle.aprs_log.proofs.Clocks.{SecondText-at}
use Rattle.aprs_log.proofs.Common.{arith}
use Rattle.aprs_log.proofs.moment.clock.second_of_text.Goals as goal

pub returns-then-second-lt60-clause-says : goal.returns-then-second-lt60-clause-says
returns-then-second-lt60-clause-says c = SecondText-at _ _ _ _ _ c.requires c.if-text-eq58.true
    c.if-text-eq58-2.true c.if-hour-lt24.true c.if-minute-lt60.true c.if-second-lt60.true
    (c.number_at-hour.ensures.says (omega (arith, c.if-hour-lt24.true)))
    (c.number_at-minute.ensures.says (omega (arith, c.if-minute-lt60.true)))
    (c.number_at-second.ensures.says (omega (arith, c.if-second-lt60.true)))
    (omega (
      arith,
      c.from.ensures,
      c.from-then-second-lt60.ensures,
      c.from-then-second-lt60-2.ensures,
    ))
