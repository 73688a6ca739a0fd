use Rattle.aprs_fold.proofs.Common.{refl}
use Rattle.aprs_fold.proofs.examples.steps.streams_end_and_fail.Goals as goal

pub returns : goal.returns
returns c = record {
  memory = tt;
  gap = tt;
  misses_output = λ h. h;
  misses_refusal = λ h. h;
  no_stream = refl;
}
