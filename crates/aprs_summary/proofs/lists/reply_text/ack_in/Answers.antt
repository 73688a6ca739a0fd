use Rattle.aprs_summary.proofs.ReplyTexts.{holds_as, no_ack, ack_found}
use Rattle.aprs_summary.proofs.lists.reply_text.ack_in.Goals as goal

pub returns-in_err-before : goal.returns-in_err-before
returns-in_err-before c =
    holds_as _ (λ x. x.now) c.from_residual.ensures (no_ack c.args.text.now c.in_err-before.ensures)

pub returns : goal.returns
returns c =
    ack_found c.args.text.now (c.in_ok-before.before.now, c.in_ok-before.field-0-1.now)
    c.in_ok-before.ensures _ c.number_at.ensures
