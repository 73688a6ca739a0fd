use Rattle.aprs_rows.specs.Matches.{IsPlayed}
use Rattle.aprs_fold.specs.Fronts.{in_front}
use Rattle.aprs_fold.specs.LastRow.{last_row}
use Rattle.aprs_fold.specs.Streams.{ahead_of_all}
use Rattle.aprs_fold.proofs.Walking.{Walking}
use Rattle.aprs_fold.proofs.fold.put_rows.Given as goal

abbrev pub invariant-loop-index : goal.invariant-loop-index
invariant-loop-index g l = record {
  walks : Walking g.R.Read.remaining g.W.Write.contents l.limit l.gap l.range l.fn.inputs l.inputs
      l.streams l.fn.out l.out (last_row l.last l.streams) l.count;
  played : IsPlayed in_front l.streams l.tournament;
}

abbrev pub decreases-loop-index : goal.decreases-loop-index
decreases-loop-index g l = ahead_of_all l.streams
