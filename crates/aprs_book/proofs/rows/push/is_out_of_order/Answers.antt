use Rattle.aprs_book.proofs.Common.{◌∙◌, not, sym, ap, option_copied, Row, is_out_of_order, of_last_got}
use Rattle.aprs_book.proofs.rows.push.is_out_of_order.Goals as goal

pub returns-in-Some : goal.returns-in-Some
returns-in-Some g c =
    ap not c.comes_before.ensures
    ∙ of_last_got (λ (l : Row). is_out_of_order l c.args.parts.now) c.args.rows.now
    c.in-Some.last.now (ap option_copied (sym c.in-Some.is) ∙ c.last.ensures.value)
