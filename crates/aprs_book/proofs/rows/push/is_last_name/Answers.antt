use Rattle.aprs_book.proofs.Common.{◌∙◌, sym, ap, is_eq, option_copied, is_same_name, of_last_got}
use Rattle.aprs_book.proofs.rows.push.is_last_name.Goals as goal

pub returns-in-Some : goal.returns-in-Some
returns-in-Some c =
    c.is_eq.ensures ∙ ap is_eq c.cmp.ensures
    ∙ of_last_got (is_same_name c.args.name.now) c.args.names.now c.in-Some.last.now
    (ap option_copied (sym c.in-Some.is) ∙ c.last.ensures.value)
