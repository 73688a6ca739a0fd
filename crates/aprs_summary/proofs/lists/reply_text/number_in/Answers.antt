use Rattle.aprs_summary.proofs.ReplyTexts.{holds_as, has_none, has_one}
use Rattle.aprs_summary.proofs.lists.reply_text.number_in.Goals as goal

pub returns-in_err-number : goal.returns-in_err-number
returns-in_err-number c =
    holds_as _ (λ x. x.now) c.from_residual.ensures
    (has_none c.args.text.now c.in_err-number.ensures)

pub returns : goal.returns
returns c =
    has_one c.args.text.now (c.in_ok-number.number.now, c.in_ok-number.field-0-1.now)
    c.in_ok-number.ensures
