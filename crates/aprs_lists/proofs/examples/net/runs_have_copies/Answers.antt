use Rattle.aprs_lists.proofs.Common.{arith, refl}
use Rattle.aprs_lists.proofs.examples.net.runs_have_copies.Goals as goal

pub returns : goal.returns
returns c = record {
  whole = record { message = refl; begins = omega arith; ends = omega arith };
  misses_before = λ h. omega (arith, h.begins);
  misses_after = λ h. omega (arith, h.ends);
}
