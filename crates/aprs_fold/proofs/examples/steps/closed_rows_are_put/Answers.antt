use Rattle.aprs_fold.proofs.Common.{refl}
use Rattle.aprs_transmissions.specs.Examples.{early_row}
use Rattle.aprs_fold.proofs.examples.steps.closed_rows_are_put.Goals as goal

pub returns : goal.returns
returns c = record {
  closed = refl;
  not_closed = refl;
  there = (early_row, refl);
  not_there = refl;
  misses_there = λ h. let e = h.1 in absurd cc;
  misses_not_there = λ e. absurd cc;
  closes_none = tt;
  misses_closed = λ h. let e = h.1 in absurd cc;
}
