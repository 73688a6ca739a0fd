use Rattle.aprs_ax25.proofs.Sounds.{frame_fault-IsSound, sound-FrameOf}
use Rattle.aprs_ax25.proofs.frame_ref.FrameRef.bytes.Goals as goal

pub returns-clause-frame : goal.returns-clause-frame
returns-clause-frame c =
    let f = c.args.self.now in
    sound-FrameOf f.bytes.now (frame_fault-IsSound f.bytes.now f.sound) f.octets
