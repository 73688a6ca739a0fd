use Rattle.aprs_summary.proofs.Common.{ap, map, subst, sym}
use Rattle.aprs_summary.specs.MessageRows.{row_in}
use Rattle.aprs_summary.specs.Messages.{ReportsMessages}
use Rattle.aprs_summary.proofs.Messages.{ascending_keys, keys_alike}
use Rattle.aprs_summary.proofs.MessagesOfSets.{messages_of_book}
use Rattle.aprs_summary.proofs.lists.message_walk.MessageWalk.of.Goals as goal

pub returns-clause-messages : goal.returns-clause-messages
returns-clause-messages g c = λ gap rows known.
    let spans = c.args.exchange.now.spans.entries in
    let answers = c.args.exchange.now.answers.entries in
    subst (ReportsMessages gap rows) (ap (map (row_in answers)) (sym c.iter.ensures.rest))
    (messages_of_book gap rows spans answers known.spans known.answers
    (ascending_keys _ keys_alike spans c.iter.ensures.ordered))
