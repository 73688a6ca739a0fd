use Rattle.aprs_table.proofs.Common.{Puts-is}
use Rattle.aprs_table.proofs.Chains.{◌before◌, refused}
use Rattle.aprs_table.proofs.SpacedLines.{start}
use Rattle.aprs_table.proofs.spaced_line.put_start.Goals as goal

pub returns-in_err-put : goal.returns-in_err-put
returns-in_err-put g c = refused c.from_residual.ensures.0 c.in_err-put.ensures _

pub returns-in_err-put_fields : goal.returns-in_err-put_fields
returns-in_err-put_fields g c = Puts-is (c.in_ok-put.ensures
    before refused c.from_residual-in_err-put_fields.ensures.0 c.in_err-put_fields.ensures _)
    (start c.args.kind.now c.args.fields.now c.args.others.now)

pub returns : goal.returns
returns g c = Puts-is
    (c.in_ok-put.ensures before c.in_ok-put_fields.ensures before c.put_fields-2.ensures)
    (start c.args.kind.now c.args.fields.now c.args.others.now)
