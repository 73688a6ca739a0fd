use Rattle.aprs_io.proofs.Common.{◌≡◌, ◌+◌, ◌-◌, ◌<◌, ◌≤◌, Keeps}
use Rattle.aprs_io.proofs.device.Counted.read.Given as goal

abbrev pub invariant-loop-n : goal.invariant-loop-n
invariant-loop-n g l = record {
  tries : l.tries < 1000;
  count : l.initial.self.failed ≤ l.self.failed;
  tried : l.self.failed ≤ l.initial.self.failed + l.tries;
  answered : l.self.answered ≡ l.initial.self.answered;
  ended : l.self.ended ≡ l.initial.self.ended;
  kept : Keeps (g.R.Read.remaining l.initial.self.device) (g.R.Read.remaining l.self.device);
}

abbrev pub decreases-loop-n : goal.decreases-loop-n
decreases-loop-n g l = 1000 - l.tries
