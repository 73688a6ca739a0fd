use Rattle.aprs_book.proofs.Common.{◌∙◌, ◌+◌, ap, refl, arith, Received}
use Rattle.aprs_transmissions.specs.Key.{key_of}
use Rattle.aprs_summary.specs.StationRows.{tally_of}
use Rattle.aprs_summary.proofs.Collected.{collected_first, walk_starts, walk_goes, walk_ends}
use Rattle.aprs_summary.proofs.Stations.{all_counted, no_keys, room_for_one, stays_in_order, tallies_put}
use Rattle.aprs_book.proofs.lists.tallies.Goals as goal

pub loop-row-init : goal.loop-row-init
loop-row-init g c = record {
  counted =
      walk_starts _ _ _ c.into_iter-row-iterator.ensures.into_iter_gives
      (collected_first _ _ _ _ c.new-tallies.ensures);
  sorted = no_keys _ c.new-tallies.ensures;
}

pub add-requires : goal.add-requires
add-requires g c =
    let few = room_for_one _ c.loop-row.row-iterator _ c.in-Some.row.now
    c.loop-row.tallies c.call.result.now _ c.loop-row.invariant.counted c.in-Some.ensures.steps refl in
    omega (arith, few, c.requires)

pub loop-row-preserved : goal.loop-row-preserved
loop-row-preserved g c =
    let source = c.call.ensures ∙ c.after-sender.ensures
    ∙ ap (λ (x : Received). (key_of x.frame).source) (c.of.ensures ∙ c.greatest.ensures) in
    record {
      counted =
          walk_goes _ _ _ _ _ c.in-Some.row.now c.in-Some.ensures.steps
          (λ done more adds held. tallies_put done c.loop-row.tallies held more
          c.in-Some.row.now adds c.call.result.now
          (tally_of c.call.result.now c.loop-row.tallies + 1) c.add.new.self
          source refl c.in_ok-add.ensures
          (stays_in_order c.call.result.now c.loop-row.tallies c.add.new.self c.in_ok-add.ensures
          c.loop-row.invariant.sorted))
          c.loop-row.invariant.counted;
      sorted =
          stays_in_order c.call.result.now c.loop-row.tallies c.add.new.self c.in_ok-add.ensures
          c.loop-row.invariant.sorted;
    }

pub returns : goal.returns
returns g c =
    all_counted _ (λ m. m.entries) c.into_map.result c.args.rows c.loop-row.tallies
    (walk_ends _ _ _ c.in-None.ensures.steps.0 c.loop-row.invariant.counted) c.into_map.ensures
