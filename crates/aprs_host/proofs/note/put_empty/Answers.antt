use Rattle.aprs_host.proofs.Common.{Puts-fails, Puts-then}
use Rattle.aprs_host.proofs.note.put_empty.Goals as goal

pub returns-in_err-put_two : goal.returns-in_err-put_two
returns-in_err-put_two g c =
    Puts-fails c.from_residual.result c.from_residual.ensures.0 c.in_err-put_two.ensures _

pub returns : goal.returns
returns g c = Puts-then c.in_ok-put_two.ensures c.put_two-2.ensures
