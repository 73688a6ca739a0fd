use Rattle.aprs_ax25.proofs.Sounds.{frame_fault-IsSound, sound-FrameOf}
use Rattle.aprs_ax25.proofs.frame_ref.FrameRef.to_frame.Goals as goal

pub with_info_at-requires-clause-frame : goal.with_info_at-requires-clause-frame
with_info_at-requires-clause-frame c =
    let f = c.args.self.now in
    sound-FrameOf f.bytes.now (frame_fault-IsSound f.bytes.now f.sound) f.octets
