use Rattle.aprs_book.proofs.Common.{◌∙◌}
use Rattle.aprs_summary.specs.Exchange.{IsExchangeOf}
use Rattle.aprs_summary.proofs.Collected.{walk_starts, walk_goes, walk_ends, last_added}
use Rattle.aprs_book.proofs.lists.exchange_of.Goals as goal

pub loop-row-init : goal.loop-row-init
loop-row-init g c =
    walk_starts _ _ _ c.into_iter-row-iterator.ensures.into_iter_gives c.new-exchange.ensures

pub take-requires : goal.take-requires
take-requires g c = c.call.ensures ∙ c.after-sender.ensures

pub loop-row-preserved : goal.loop-row-preserved
loop-row-preserved g c =
    walk_goes _ _ _ _ _ c.in-Some.row.now c.in-Some.ensures.steps
    (λ done more adds held. last_added (λ rows. IsExchangeOf rows c.take.new.self) adds
    (c.in_ok-take.ensures done c.in-Some.row.now held c.first.ensures
    (c.of-heard.ensures ∙ c.greatest.ensures)))
    c.loop-row.invariant

pub returns : goal.returns
returns g c = walk_ends _ _ _ c.in-None.ensures.steps.0 c.loop-row.invariant
