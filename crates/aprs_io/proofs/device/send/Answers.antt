use Rattle.aprs_io.proofs.Common.{[], arith, refl, ℕ, length-drop, Appends-nil}
use Rattle.aprs_io.proofs.Bytes.{AppendsAllBut-more}
use Rattle.aprs_io.proofs.device.send.Goals as goal

pub loop-rest-init : goal.loop-rest-init
loop-rest-init g c =
    record {
      tries = omega arith;
      count = omega arith;
      tried = omega arith;
      answered = refl;
      ended = refl;
      none =
          λ e. refl;
      sent = ([], refl, Appends-nil _);
      fewer = omega arith;
      unasked = λ e. refl;
    }

pub loop-rest-preserved-then-n-gt0 : goal.loop-rest-preserved-then-n-gt0
loop-rest-preserved-then-n-gt0 g c = record {
  tries = omega arith;
  count = c.loop-rest.invariant.count;
  tried = omega (arith, length-drop {A = ℕ}, c.in-Ok.ensures.bound);
  none = λ e. refl;
  answered = c.loop-rest.invariant.answered;
  ended = c.loop-rest.invariant.ended;
  sent = AppendsAllBut-more _ _ _ _ _ _ c.loop-rest.invariant.sent c.in-Ok.ensures.bytes;
  fewer = omega (
    arith,
    length-drop {A = ℕ},
    c.in-Ok.ensures.bound,
    c.loop-rest.invariant.fewer,
  );
  unasked = λ none.
      absurd (omega (arith, none, c.loop-rest.invariant.fewer, c.in-Ok.ensures.bound));
}
