use Rattle.aprs_rows.specs.Matches.{IsPlayed}
use Rattle.aprs_fold.specs.Fronts.{in_front}
use Rattle.aprs_fold.specs.Streams.{ahead_of_all}
use Rattle.aprs_fold.proofs.Points.{Point}
use Rattle.aprs_fold.proofs.check.check_books.Given as goal

abbrev pub invariant-loop-index : goal.invariant-loop-index
invariant-loop-index g l = record {
  point : Point g.R.Read.remaining l.fn.limit l.fn.gap l.fn.inputs l.inputs l.streams;
  played : IsPlayed in_front l.streams l.tournament;
}

abbrev pub decreases-loop-index : goal.decreases-loop-index
decreases-loop-index g l = ahead_of_all l.streams
