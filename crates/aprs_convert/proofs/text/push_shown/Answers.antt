use Rattle.aprs_convert.proofs.Common.{◌++◌, ap, sym, ◌∙◌, shown-plain}
use Rattle.aprs_convert.proofs.text.push_shown.Goals as goal

pub returns-then-are_shown-clause-shown : goal.returns-then-are_shown-clause-shown
returns-then-are_shown-clause-shown c =
    c.push_all.ensures.items
    ∙ ap (λ l. c.args.out.now.items ++ l) (shown-plain c.args.bytes.now
    (sym c.if-are_shown.ensures))
