use Rattle.aprs_io.proofs.Sends.{Sends-fails, Sends-then}
use Rattle.aprs_io.proofs.Outlets.{Puts-sent}
use Rattle.aprs_io.proofs.outlet.Outlet.put.Goals as goal

pub returns-in_err-flush : goal.returns-in_err-flush
returns-in_err-flush g c =
    Puts-sent c.in_err-flush.ensures.same_reference _ c.in_err-flush.ensures.empty
    (Sends-fails _ c.from_residual.ensures.0 c.in_err-flush.ensures.sent c.args.bytes.now)

pub returns-then-bytes-gt-MAX_HELD : goal.returns-then-bytes-gt-MAX_HELD
returns-then-bytes-gt-MAX_HELD g c =
    Puts-sent c.in_ok-flush.ensures.same_reference _ c.in_ok-flush.ensures.empty
    (Sends-then c.in_ok-flush.ensures.sent c.send.ensures)
