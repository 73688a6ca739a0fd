use Rattle.aprs_book.proofs.Common.{◌∙◌, None, map, sym, ap, subst, millis_of, known_of, plain_known}
use Rattle.aprs_summary.specs.Known.{greatest_of}
use Rattle.aprs_summary.specs.LastKnown.{IsLastKnown}
use Rattle.aprs_summary.specs.Reports.{has_source}
use Rattle.aprs_summary.proofs.IndexSteps.{entry_reports}
use Rattle.aprs_book.proofs.book.Book.last_heard.Goals as goal

pub returns : goal.returns
returns g c =
    let test = has_source c.args.station.now in
    let rows = c.args.self.now.rows in
    let found = c.heard_of.ensures ∙ c.greatest_from.ensures
    ∙ ap (λ r. known_of test None (map greatest_of r)) c.walk.ensures.rows in
    subst (IsLastKnown (millis_of c.args.self.now.gap) rows test) (sym found)
    (entry_reports (millis_of c.args.self.now.gap) rows test _ (plain_known test (map greatest_of rows)))
