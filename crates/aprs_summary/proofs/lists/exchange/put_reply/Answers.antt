use Rattle.aprs_summary.proofs.Common.{◌≡◌, Some, None, row_key}
use Rattle.aprs_summary.specs.MessageRows.{message_of}
use Rattle.aprs_summary.proofs.Collected.{on_ok}
use Rattle.aprs_summary.proofs.Exchanges.{answers_beside, answers_by_reply}
use Rattle.aprs_summary.proofs.lists.exchange.put_reply.Goals as goal

pub returns-in-Some : goal.returns-in-Some
returns-in-Some g c =
    on_ok c.put_answer.result (λ put rows r held message is.
    put rows r held
    (λ a. let by = answers_by_reply (row_key r) (message_of c.args.message.now) message a in
    let one = c.in-Some.ensures a in
    (λ p. one.0 (by.0 p), λ e. by.1 (one.1 e)))
    is) c.put_answer.ensures

pub returns-in-None : goal.returns-in-None
returns-in-None g c = λ rows r held message is.
    answers_beside rows r _
    (λ a p. let e : None ≡ Some a = (c.in-None.ensures a).0
    ((answers_by_reply (row_key r) (message_of c.args.message.now) message a).0 p) in absurd (cc))
    held
