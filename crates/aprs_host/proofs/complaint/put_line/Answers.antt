use Rattle.std.specs.Fmt.{decimal}
use Rattle.aprs_host.proofs.Common.{Puts-fails, Puts-is, Puts-then}
use Rattle.aprs_host.proofs.complaint.put_line.Goals as goal

pub returns-in_err-put : goal.returns-in_err-put
returns-in_err-put g c =
    Puts-fails c.from_residual.result c.from_residual.ensures.0 c.in_err-put.ensures _

pub returns-in_err-put-2 : goal.returns-in_err-put-2
returns-in_err-put-2 g c =
    Puts-then c.in_ok-put.ensures
    (Puts-fails c.from_residual-in_err-put-2.result
    c.from_residual-in_err-put-2.ensures.0 c.in_err-put-2.ensures _)

pub returns-in_err-put-3 : goal.returns-in_err-put-3
returns-in_err-put-3 g c =
    Puts-then c.in_ok-put.ensures
    (Puts-then c.in_ok-put-2.ensures
    (Puts-fails {x = decimal c.args.line} c.from_residual-in_err-put-3.result
    c.from_residual-in_err-put-3.ensures.0 (Puts-is c.in_err-put-3.ensures (cc)) _))

pub returns : goal.returns
returns g c =
    Puts-then c.in_ok-put.ensures
    (Puts-then c.in_ok-put-2.ensures
    (Puts-then (Puts-is c.in_ok-put-3.ensures (cc)) c.put_two.ensures))
