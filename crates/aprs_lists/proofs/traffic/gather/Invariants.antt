use Rattle.std.proofs.Common.{map}
use Rattle.aprs_lists.specs.Answers.{reply_of}
use Rattle.aprs_lists.specs.Copies.{copy_of}
use Rattle.aprs_summary.proofs.Collected.{SoFar}
use Rattle.aprs_lists.specs.Traffic.{AreGiven, GivesCopy, GivesNetReply}
use Rattle.aprs_lists.proofs.traffic.gather.Given as goal

abbrev pub invariant-loop-row : goal.invariant-loop-row
invariant-loop-row g l = record {
  copies :
      SoFar (λ done. AreGiven GivesCopy done (map copy_of l.copies.items)) l.fn.rows.rows
      l.row-iterator.rows;
  answers :
      SoFar (λ done. AreGiven GivesNetReply done (map reply_of l.answers.items)) l.fn.rows.rows
      l.row-iterator.rows;
}
