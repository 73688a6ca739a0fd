use Rattle.aprs_book.proofs.Common.{◌∙◌, sym, ap, option_copied, Row, is_too_near, of_last_got}
use Rattle.aprs_book.proofs.rows.push.is_too_near.Goals as goal

pub returns-in-Some : goal.returns-in-Some
returns-in-Some g c =
    c.is_too_near_to.ensures
    ∙ of_last_got (λ (l : Row). is_too_near c.args.gap l c.args.parts.now) c.args.rows.now
    c.in-Some.last.now (ap option_copied (sym c.in-Some.is) ∙ c.last.ensures.value)
