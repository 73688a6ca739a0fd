use Rattle.aprs_table.proofs.Chains.{◌before◌, refused}
use Rattle.aprs_table.proofs.spaced_line.put_spaced.Goals as goal

pub returns-in_err-put : goal.returns-in_err-put
returns-in_err-put g c = refused c.from_residual.ensures.0 c.in_err-put.ensures _

pub returns : goal.returns
returns g c = c.in_ok-put.ensures before c.put_field.ensures
