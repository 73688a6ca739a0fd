use Rattle.aprs_io.proofs.Common.{length, ◌≡◌, ◌+◌, ◌*◌, ◌-◌, ◌<◌, ◌≤◌}
use Rattle.aprs_io.specs.Device.{AppendsAllBut}
use Rattle.aprs_io.proofs.device.send.Given as goal

abbrev pub invariant-loop-rest : goal.invariant-loop-rest
invariant-loop-rest g l = record {
  tries : l.tries < 1000;
  count : l.initial.w.failed ≤ l.w.failed;
  tried : l.w.failed + 999 * length l.rest ≤ l.initial.w.failed + 999 * length l.initial.rest
      + l.tries;
  none : length l.rest ≡ 0 → l.tries ≡ 0;
  answered : l.w.answered ≡ l.initial.w.answered;
  ended : l.w.ended ≡ l.initial.w.ended;
  sent : AppendsAllBut (g.W.Write.contents l.initial.w.device)
      (g.W.Write.contents l.w.device) l.initial.rest l.rest;
  fewer : length l.rest ≤ length l.initial.rest;
  unasked : length l.initial.rest ≡ 0 → l.w ≡ l.initial.w;
}

abbrev pub decreases-loop-rest : goal.decreases-loop-rest
decreases-loop-rest g l = 1000 * length l.rest + (1000 - l.tries)
