-- When messages were reported, and how they were answered, by key.
use Rattle.std.specs.Prelude.{List}
use Rattle.aprs_transmissions.specs.Row.{Row}
use Rattle.aprs_summary.specs.declared.lists.exchange.Exchange.{Exchange}
use Rattle.aprs_summary.specs.MessageRows.{AreAnswers, AreSpans}

-- One span for each message of the rows, and one greatest reception for each of their answers.
pub record IsExchangeOf {A : Type 0} (rows : List Row) (e : Exchange A) : Type 0 where
  pub spans : AreSpans rows e.spans.entries
  pub answers : AreAnswers rows e.answers.entries
