use Rattle.std.proofs.Common.{arith}
use Rattle.aprs_ax25.proofs.Sounds.{frame_fault-IsSound}
use Rattle.aprs_ax25.proofs.frame_ref.FrameRef.info_at.Goals as goal

pub returns-clause-most : goal.returns-clause-most
returns-clause-most c =
    let f = c.args.self.now in
    omega (arith, f.place, (frame_fault-IsSound f.bytes.now f.sound).size.1)
