use Rattle.aprs_runs.proofs.Faultless.{no_fault}
use Rattle.aprs_runs.proofs.laws.faultless_inputs_have_no_fault.Goals as goal

pub returns : goal.returns
returns c = record { none = no_fault }
