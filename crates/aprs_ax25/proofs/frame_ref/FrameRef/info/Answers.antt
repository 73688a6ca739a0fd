use Rattle.std.proofs.Common.{arith, length-drop}
use Rattle.aprs_ax25.specs.FrameFault.{field_len}
use Rattle.aprs_ax25.proofs.Sounds.{frame_fault-IsSound}
use Rattle.aprs_ax25.proofs.frame_ref.FrameRef.info.Goals as goal

pub split_at-requires : goal.split_at-requires
split_at-requires c =
    let f = c.args.self.now in
    let some = (frame_fault-IsSound f.bytes.now f.sound).info.0 in
    omega (arith, f.place, some, length-drop (field_len f.bytes.now) f.bytes.now)
