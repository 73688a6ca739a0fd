use Rattle.std.proofs.Common.{◌<◌, ◌≤◌, length}
use Rattle.aprs_rows.specs.Matches.{IsPlayedBut}
use Rattle.aprs_rows.proofs.store.tournament.play_all.Given as goal

abbrev pub invariant-loop-number : goal.invariant-loop-number
invariant-loop-number g l = record {
  most : l.number ≤ length l.streams;
  played : IsPlayedBut g.T.HasFront.front l.streams l.winners (λ k. k < l.number);
}

abbrev pub decreases-loop-number : goal.decreases-loop-number
decreases-loop-number g l = l.number
