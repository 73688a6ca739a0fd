use Rattle.aprs_io.proofs.Common.{arith, refl, Keeps-refl}
use Rattle.aprs_io.proofs.device.Counted.read.Goals as goal

pub loop-n-init : goal.loop-n-init
loop-n-init g c = record {
  tries = omega arith;
  count = omega arith;
  tried = omega arith;
  answered = refl;
  ended = refl;
  kept =
      Keeps-refl _;
}
