use Rattle.aprs_summary.proofs.ReplyTexts.{ack_replies, no_reply, nothing, reply_found, something}
use Rattle.aprs_summary.proofs.lists.reply_text.acknowledged_in.Goals as goal

pub returns-in-Some : goal.returns-in-Some
returns-in-Some c =
    reply_found c.args.text.now (c.in-Some.field-0-0.now, c.in-Some.acknowledged.now)
    c.in-Some.ensures (something _ c.if-not-is_empty.ensures)

pub returns-in-Some-2 : goal.returns-in-Some-2
returns-in-Some-2 c =
    no_reply c.args.text.now (c.in-Some.field-0-0.now, c.in-Some.acknowledged.now)
    c.in-Some.ensures (nothing _ c.if-not-is_empty.ensures)

pub returns-in-None : goal.returns-in-None
returns-in-None c =
    ack_replies c.args.text.now _ c.in-None.ensures c.ack_in.ensures
