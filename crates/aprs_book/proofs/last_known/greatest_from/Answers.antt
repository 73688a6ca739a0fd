use Rattle.aprs_book.proofs.Common.{◌∙◌, None, map, sym, ap, option_copied, known_after, known_of}
use Rattle.aprs_summary.specs.Known.{greatest_of}
use Rattle.aprs_summary.specs.Reports.{has_source}
use Rattle.aprs_book.proofs.last_known.greatest_from.Goals as goal

pub loop-row-init : goal.loop-row-init
loop-row-init g c =
    ap (λ rows. known_of (has_source c.args.station.now) None (map greatest_of rows))
    c.into_iter-row-iterator.ensures.into_iter_gives

pub loop-row-preserved : goal.loop-row-preserved
loop-row-preserved g c =
    let test = has_source c.args.station.now in
    ap (λ k. known_of test k (map greatest_of c.next.new.self))
    (c.known_after-known.ensures
    ∙ ap (λ x. known_after test (option_copied c.loop-row.known) x) c.greatest.ensures)
    ∙ sym (ap (λ rows. known_of test (option_copied c.loop-row.known) (map greatest_of rows))
    c.in-Some.ensures.steps)
    ∙ c.loop-row.invariant

pub returns : goal.returns
returns g c =
    let test = has_source c.args.station.now in
    ap (λ rows. known_of test (option_copied c.loop-row.known) (map greatest_of rows))
    (sym c.in-None.ensures.steps.0) ∙ c.loop-row.invariant
