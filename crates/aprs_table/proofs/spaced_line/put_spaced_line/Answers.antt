use Rattle.aprs_table.proofs.Common.{append_assoc, Puts-is}
use Rattle.aprs_table.proofs.Chains.{◌before◌, refused}
use Rattle.aprs_table.proofs.spaced_line.put_spaced_line.Goals as goal

pub returns-in_err-put_start : goal.returns-in_err-put_start
returns-in_err-put_start g c = Puts-is
    (refused c.from_residual.ensures.0 c.in_err-put_start.ensures _)
    (append_assoc c.args.kind.now _ _)

pub returns : goal.returns
returns g c = Puts-is
    (c.in_ok-put_start.ensures before c.put.ensures) (append_assoc c.args.kind.now _ _)
