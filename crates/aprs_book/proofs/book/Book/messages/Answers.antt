use Rattle.aprs_book.proofs.Common.{subst, millis_of}
use Rattle.aprs_summary.specs.Exchange.{IsExchangeOf}
use Rattle.aprs_book.proofs.book.Book.messages.Goals as goal

pub returns : goal.returns
returns g c =
    c.messages_of.ensures (millis_of c.args.self.now.gap) c.args.self.now.rows
    (subst (λ rows. IsExchangeOf rows c.in_ok-exchange.exchange) c.walk.ensures.rows
    c.in_ok-exchange.ensures)
