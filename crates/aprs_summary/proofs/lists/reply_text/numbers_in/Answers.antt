use Rattle.aprs_summary.proofs.ReplyTexts.{holds_as, empty_number, no_number, no_number_before, nothing, number_found, something}
use Rattle.aprs_summary.proofs.lists.reply_text.numbers_in.Goals as goal

pub returns-in_err-before : goal.returns-in_err-before
returns-in_err-before c =
    holds_as _ (λ x. (x.0.now, x.1.now)) c.from_residual.ensures
    (no_number c.args.text.now c.in_err-before.ensures)

pub returns-in_err-number : goal.returns-in_err-number
returns-in_err-number c =
    holds_as _ (λ x. (x.0.now, x.1.now)) c.from_residual-in_err-number.ensures
    (no_number_before c.args.text.now
    (c.in_ok-before.before.now, c.in_ok-before.acknowledged.now) c.in_ok-before.ensures
    c.in_err-number.ensures)

pub returns-then-is_empty : goal.returns-then-is_empty
returns-then-is_empty c =
    empty_number c.args.text.now
    (c.in_ok-before.before.now, c.in_ok-before.acknowledged.now) c.in_ok-before.ensures
    (c.in_ok-number.field-0-0.now, c.in_ok-number.number.now) c.in_ok-number.ensures
    (nothing _ c.if-is_empty.ensures)

pub returns : goal.returns
returns c =
    number_found c.args.text.now
    (c.in_ok-before.before.now, c.in_ok-before.acknowledged.now) c.in_ok-before.ensures
    (c.in_ok-number.field-0-0.now, c.in_ok-number.number.now) c.in_ok-number.ensures
    (something _ c.if-is_empty.ensures)
