use Rattle.aprs_host.proofs.Common.{Puts-fails, Puts-then}
use Rattle.aprs_host.proofs.complaint.put_two.Goals as goal

pub returns-in_err-put : goal.returns-in_err-put
returns-in_err-put g c =
    Puts-fails c.from_residual.result c.from_residual.ensures.0 c.in_err-put.ensures _

pub returns : goal.returns
returns g c = Puts-then c.in_ok-put.ensures c.put-2.ensures
