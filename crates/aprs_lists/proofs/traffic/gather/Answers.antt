use Rattle.aprs_lists.proofs.Common.{ap, map, BookValue}
use Rattle.aprs_lists.specs.Answers.{reply_of}
use Rattle.aprs_lists.specs.Copies.{copy_of}
use Rattle.aprs_summary.proofs.Collected.{last_added, walk_ends, walk_goes, walk_starts}
use Rattle.aprs_lists.specs.Traffic.{AreGiven, GivesCopy, GivesNetReply}
use Rattle.aprs_lists.proofs.TrafficGiven.{given_first, given_more, given_sorted}
use Rattle.aprs_lists.proofs.traffic.gather.Goals as goal

pub loop-row-init : goal.loop-row-init
loop-row-init g c =
    let start = ap (λ (b : BookValue). b.rows) c.into_iter-row-iterator.ensures.into_iter_gives in
    record {
      copies =
          walk_starts _ _ _ start (given_first GivesCopy _ (ap (map copy_of) c.new-copies.ensures.items));
      answers =
          walk_starts _ _ _ start (given_first GivesNetReply _ (ap (map reply_of) c.new-answers.ensures.items));
    }

pub loop-row-preserved : goal.loop-row-preserved
loop-row-preserved g c = record {
  copies =
      walk_goes _ _ _ _ _ c.in-Some.row c.in-Some.ensures.steps
      (λ done more adds held. last_added
      (λ rows. AreGiven GivesCopy rows (map copy_of c.take_row.new.copies.items)) adds
      (given_more GivesCopy done c.in-Some.row _ _ held c.in_ok-take_row.ensures.copies))
      c.loop-row.invariant.copies;
  answers =
      walk_goes _ _ _ _ _ c.in-Some.row c.in-Some.ensures.steps
      (λ done more adds held. last_added
      (λ rows. AreGiven GivesNetReply rows (map reply_of c.take_row.new.answers.items)) adds
      (given_more GivesNetReply done c.in-Some.row _ _ held c.in_ok-take_row.ensures.answers))
      c.loop-row.invariant.answers;
}

pub returns : goal.returns
returns g c = record {
  copies_given =
      given_sorted GivesCopy copy_of _ _ _
      (walk_ends _ _ _ c.in-None.ensures.steps.0 c.loop-row.invariant.copies)
      c.sort_copies.ensures.same;
  answers_given =
      given_sorted GivesNetReply reply_of _ _ _
      (walk_ends _ _ _ c.in-None.ensures.steps.0 c.loop-row.invariant.answers)
      c.sort_answers.ensures.same;
  copies_ordered = c.sort_copies.ensures.ordered;
  answers_ordered = c.sort_answers.ensures.ordered;
}
