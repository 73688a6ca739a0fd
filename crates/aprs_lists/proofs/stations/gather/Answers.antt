use Rattle.aprs_lists.proofs.Common.{◌∙◌, ap, arith, subst, sym, BookValue, Received}
use Rattle.aprs_transmissions.specs.Key.{key_of}
use Rattle.aprs_transmissions.specs.Row.{last_moment}
use Rattle.aprs_summary.proofs.Collected.{last_added, walk_ends, walk_goes, walk_starts}
use Rattle.aprs_summary.proofs.TakenRows.{room_for_row}
use Rattle.aprs_summary.specs.SummaryBuilder.{IsBuilderOf}
use Rattle.aprs_lists.specs.Activity.{AreActivities, passes_on, with_one_more}
use Rattle.aprs_lists.proofs.Activities.{no_activities, one_row_more, room_for_one}
use Rattle.aprs_lists.proofs.stations.gather.Goals as goal

pub loop-row-init : goal.loop-row-init
loop-row-init g c =
    let start = ap (λ (b : BookValue). b.rows) c.into_iter-row-iterator.ensures.into_iter_gives in
    record {
      said = walk_starts _ _ _ start c.new-builder.ensures;
      active = walk_starts _ _ _ start (no_activities _ c.new-activities.ensures);
    }

pub take-requires-clause-sender : goal.take-requires-clause-sender
take-requires-clause-sender g c =
    c.call.ensures ∙ c.after-sender.ensures ∙ ap (λ (x : Received). (key_of x.frame).source) c.greatest.ensures

pub take-requires-clause-room : goal.take-requires-clause-room
take-requires-clause-room g c =
    let few = room_for_row _ c.loop-row.row-iterator.rows _ c.in-Some.row c.loop-row.builder
    c.call.result.now c.loop-row.invariant.said c.in-Some.ensures.steps in
    omega (arith, few, c.requires)

pub count_row-requires : goal.count_row-requires
count_row-requires g c =
    let few = room_for_one _ c.loop-row.row-iterator.rows _ c.in-Some.row
    c.loop-row.activities c.call-in-loop-row.result.now c.loop-row.invariant.active
    c.in-Some.ensures.steps in
    omega (arith, few, c.requires)

pub loop-row-preserved : goal.loop-row-preserved
loop-row-preserved g c =
    let row = c.in-Some.row in
    let own = c.call-in-loop-row.ensures ∙ c.after-sender.ensures
    ∙ ap (λ (x : Received). (key_of x.frame).source) c.greatest.ensures in
    record {
      said =
          walk_goes _ _ _ _ _ row c.in-Some.ensures.steps
          (λ done more adds held. last_added (λ rows. IsBuilderOf rows c.take.new.self) adds
          (c.in_ok-take.ensures done held)) c.loop-row.invariant.said;
      active =
          walk_goes _ _ _ _ _ row c.in-Some.ensures.steps
          (λ done more adds held. last_added
          (λ rows. AreActivities rows c.count_row.new.activities) adds
          (one_row_more done c.loop-row.activities held row _
          (c.in_ok-count_row.ensures
          ∙ ap (λ call. with_one_more call (last_moment row) (passes_on row) c.loop-row.activities)
          own)))
          c.loop-row.invariant.active;
    }

pub returns-clause-said : goal.returns-clause-said
returns-clause-said g c = walk_ends _ _ _ c.in-None.ensures.steps.0 c.loop-row.invariant.said

pub returns-clause-active : goal.returns-clause-active
returns-clause-active g c =
    subst (AreActivities _) (sym c.in_ok-activities.ensures)
    (walk_ends _ _ _ c.in-None.ensures.steps.0 c.loop-row.invariant.active)
