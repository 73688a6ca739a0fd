use Rattle.aprs_io.proofs.Common.{[], subst, sym}
use Rattle.aprs_io.specs.Device.{SendsAllBut}
use Rattle.aprs_io.proofs.Sends.{left_all}
use Rattle.aprs_io.proofs.outlet.Outlet.new.Goals as goal

pub returns-clause-nothing : goal.returns-clause-nothing
returns-clause-nothing g c =
    subst (SendsAllBut g.W.Write.contents c.args.w.now c.args.w.now []) (sym c.new.ensures)
    (left_all c.args.w.now [])
