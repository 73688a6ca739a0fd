use Rattle.aprs_table.proofs.Common.{refl}
use Rattle.aprs_table.proofs.Steps.{line_of}
use Rattle.aprs_table.proofs.examples.rows.frames_that_are_passed_on_have_a_gate.Goals as goal

pub returns : goal.returns
unfolding line_of
returns c = record {
  message = refl;
  position = refl;
  within = refl;
  nothing = refl;
  not_passed = refl;
}
