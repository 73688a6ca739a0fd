use Rattle.aprs_summary.proofs.Common.{◌∙◌, Some, sym, ap, option_map, greater_known}
use Rattle.aprs_summary.proofs.known.index.keep.Goals as goal

pub returns-in-Some : goal.returns-in-Some
returns-in-Some g c =
    ap (option_map g.X.Kept.received) c.in-Some.is ∙ ap Some (sym c.lent.ensures)
    ∙ c.exceeds.ensures.kept c.if-not-exceeds.true
    ∙ ap (λ v. Some (greater_known (Some v) c.args.x.now)) c.lent.ensures
    ∙ ap (λ o. Some (greater_known (option_map g.X.Kept.received o) c.args.x.now)) (sym c.in-Some.is)
