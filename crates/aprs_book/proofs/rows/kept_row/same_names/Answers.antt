use Rattle.aprs_book.proofs.Common.{◌∙◌, sym, pointwise_decides, bytes_decides}
use Rattle.aprs_book.proofs.rows.kept_row.same_names.Goals as goal

pub returns : goal.returns
returns c =
    let reported = pointwise_decides bytes_decides c.args.a.now c.args.b.now in
    (λ h. reported.0 (sym c.eq.ensures ∙ h), λ h. c.eq.ensures ∙ reported.1 h)
