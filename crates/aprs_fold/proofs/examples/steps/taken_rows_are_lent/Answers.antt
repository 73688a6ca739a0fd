use Rattle.aprs_fold.proofs.Common.{refl}
use Rattle.aprs_fold.proofs.examples.steps.taken_rows_are_lent.Goals as goal

pub returns : goal.returns
returns c = record {
  taken = refl;
  joined = refl;
  not_lent = refl;
  no_stream = refl;
  of_the_stream = λ k e. cc;
  misses_other = λ h. absurd (let e = h 0 refl in cc);
}
