use Rattle.aprs_summary.proofs.Common.{◌∙◌, ap, arith, BookValue, Received}
use Rattle.aprs_transmissions.specs.Key.{key_of}
use Rattle.aprs_summary.specs.SummaryBuilder.{IsBuilderOf}
use Rattle.aprs_summary.proofs.Collected.{walk_starts, walk_goes, walk_ends, last_added}
use Rattle.aprs_summary.proofs.TakenRows.{room_for_row}
use Rattle.aprs_summary.proofs.lists.summary_builder.summarize.Goals as goal

pub loop-row-init : goal.loop-row-init
loop-row-init g c =
    walk_starts _ _ _ (ap (λ (b : BookValue). b.rows) c.into_iter-row-iterator.ensures.into_iter_gives) c.new-builder.ensures

pub take-requires-clause-sender : goal.take-requires-clause-sender
take-requires-clause-sender g c =
    c.call.ensures ∙ c.after-sender.ensures ∙ ap (λ (x : Received). (key_of x.frame).source) c.greatest.ensures

pub take-requires-clause-room : goal.take-requires-clause-room
take-requires-clause-room g c =
    let few = room_for_row _ c.loop-row.row-iterator.rows _ c.in-Some.row c.loop-row.builder
    c.call.result.now c.loop-row.invariant c.in-Some.ensures.steps in
    omega (arith, few, c.requires)

pub loop-row-preserved : goal.loop-row-preserved
loop-row-preserved g c =
    walk_goes _ _ _ _ _ c.in-Some.row c.in-Some.ensures.steps
    (λ done more adds held. last_added (λ rows. IsBuilderOf rows c.take.new.self) adds
    (c.in_ok-take.ensures done held)) c.loop-row.invariant

pub returns : goal.returns
returns g c = walk_ends _ _ _ c.in-None.ensures.steps.0 c.loop-row.invariant
