use Rattle.std.proofs.Common.{◌<◌, ◌+◌, length}
use Rattle.aprs_rows.specs.Matches.{IsAbove, IsPlayedBut}
use Rattle.aprs_rows.proofs.store.tournament.play_above.Given as goal

abbrev pub invariant-loop-number : goal.invariant-loop-number
invariant-loop-number g l = record {
  within : l.number < length l.streams + length l.streams;
  played : IsPlayedBut g.T.HasFront.front l.streams l.winners (IsAbove l.number);
}

abbrev pub decreases-loop-number : goal.decreases-loop-number
decreases-loop-number g l = l.number
