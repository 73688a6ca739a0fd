use Rattle.std.specs.Option.{option_map}
use Rattle.aprs_lists.specs.Answers.{reply_of}
use Rattle.aprs_lists.specs.Copies.{copy_of}
use Rattle.aprs_summary.proofs.Collected.{on_ok}
use Rattle.aprs_lists.specs.Traffic.{GivesCopy, GivesNetReply}
use Rattle.aprs_lists.proofs.TrafficGiven.{one_more}
use Rattle.aprs_lists.proofs.traffic.take_row.Goals as goal

pub returns : goal.returns
returns g c = record {
  copies =
      on_ok c.put_answer.result
      (λ e. one_more (GivesCopy c.args.row.now) _ _ (option_map copy_of c.copy_in.result)
      c.copy_in.ensures c.in_ok-put_copy.ensures) c.put_answer.ensures;
  answers =
      on_ok c.put_answer.result
      (λ e. one_more (GivesNetReply c.args.row.now) _ _ (option_map reply_of c.answer_in.result)
      c.answer_in.ensures e) c.put_answer.ensures;
}
