use Rattle.aprs_summary.proofs.Common.{◌≡◌, List, Ok, ℕ}
use Rattle.aprs_summary.specs.MessageRows.{message_of}
use Rattle.aprs_summary.specs.ReplyAcks.{IsReplyAckText}
use Rattle.aprs_summary.proofs.Exchanges.{no_id, one_reply}
use Rattle.aprs_summary.proofs.ReplyTexts.{held_so, one_held}
use Rattle.aprs_summary.proofs.lists.message_key.reply_in.Goals as goal

pub returns-in-Ok : goal.returns-in-Ok
returns-in-Ok c =
    one_reply (message_of c.args.message.now) c.in-Ok.answered c.copy.result c.in_ok-id.id.now
    c.copy.ensures (no_id c.args.message.now.id c.if-is_some.ensures)
    (held_so (λ (n : List ℕ). IsReplyAckText n c.args.message.now.text.now) c.in_ok-id.id.now
    c.in_ok-id.ensures)
    (λ n r. one_held (λ (n : List ℕ). IsReplyAckText n c.args.message.now.text.now) c.in_ok-id.id.now n
    c.in_ok-id.ensures r)
    c.in-Ok.ensures.found
    (λ call s. let t : Ok c.in-Ok.answered ≡ Ok call = c.in-Ok.ensures.only call s in cc)
