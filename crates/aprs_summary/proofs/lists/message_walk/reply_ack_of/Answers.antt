use Rattle.aprs_summary.proofs.Common.{◌∙◌, Some, ap}
use Rattle.aprs_summary.specs.Messages.{HasNumber, reply_ack_by}
use Rattle.aprs_summary.specs.MessageRows.{message_of, number_without, reply_ack_to}
use Rattle.aprs_summary.specs.ReplyTexts.{trailing_number}
use Rattle.aprs_summary.proofs.ReplyTexts.{same_held}
use Rattle.aprs_summary.proofs.TextNumbers.{message_number}
use Rattle.aprs_summary.proofs.lists.message_walk.reply_ack_of.Goals as goal

pub returns-in-Some : goal.returns-in-Some
returns-in-Some g c =
    let m = message_of c.args.message.now in
    c.reply_ack_by.ensures ∙ ap (reply_ack_by c.args.first) c.greatest_answer.ensures
    ∙ ap (reply_ack_to c.args.answers.now.entries m c.args.first)
    (same_held (HasNumber m) (Some c.in-Some.number.now) (number_without m.id (trailing_number m.text))
    c.in-Some.ensures (message_number m))

pub returns-in-None : goal.returns-in-None
returns-in-None g c =
    let m = message_of c.args.message.now in
    ap (reply_ack_to c.args.answers.now.entries m c.args.first)
    (same_held (HasNumber m) _ _ c.in-None.ensures (message_number m))
