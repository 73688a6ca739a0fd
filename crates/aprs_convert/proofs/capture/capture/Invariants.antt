use Rattle.aprs_convert.proofs.Common.{◌≤◌, Calls, Going, device_of}
use Rattle.aprs_convert.specs.Plan.{capture_text}
use Rattle.aprs_convert.proofs.Captures.{HasGot}
use Rattle.aprs_convert.proofs.capture.capture.Given as goal

abbrev pub invariant-loop-count : goal.invariant-loop-count
invariant-loop-count g l = record {
  reads : Calls Going l.initial.r l.r;
  writes : Calls Going l.initial.w l.w;
  most : l.left ≤ l.limit;
  got : HasGot (capture_text l.receiver l.moment) l.limit l.left l.reader
      (g.R.Read.remaining (device_of l.initial.r)) (g.R.Read.remaining (device_of l.r))
      (g.W.Write.contents (device_of l.initial.w)) (g.W.Write.contents (device_of l.w));
}

abbrev pub decreases-loop-count : goal.decreases-loop-count
decreases-loop-count g l = l.left
