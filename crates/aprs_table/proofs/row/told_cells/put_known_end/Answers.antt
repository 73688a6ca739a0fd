use Rattle.aprs_table.proofs.Chains.{◌before◌, refused}
use Rattle.aprs_table.proofs.row.told_cells.put_known_end.Goals as goal

pub returns-in_err-put_phg : goal.returns-in_err-put_phg
returns-in_err-put_phg g c = refused c.from_residual.ensures.0 c.in_err-put_phg.ensures _

pub returns-in_err-put_frequency : goal.returns-in_err-put_frequency
returns-in_err-put_frequency g c = c.in_ok-put_phg.ensures
    before refused c.from_residual-in_err-put_frequency.ensures.0 c.in_err-put_frequency.ensures _

pub returns-in_err-put_finer : goal.returns-in_err-put_finer
returns-in_err-put_finer g c = c.in_ok-put_phg.ensures before c.in_ok-put_frequency.ensures
    before refused c.from_residual-in_err-put_finer.ensures.0 c.in_err-put_finer.ensures _

pub returns : goal.returns
returns g c = c.in_ok-put_phg.ensures before c.in_ok-put_frequency.ensures
    before c.in_ok-put_finer.ensures before c.put.ensures
