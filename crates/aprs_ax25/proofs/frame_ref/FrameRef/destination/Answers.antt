use Rattle.std.proofs.Common.{◌∙◌, ap, arith}
use Rattle.aprs_ax25.specs.FrameFault.{has_callsign}
use Rattle.aprs_ax25.proofs.Sounds.{frame_fault-IsSound, callsign-at}
use Rattle.aprs_ax25.proofs.frame_ref.FrameRef.destination.Goals as goal

pub from_octets-requires-clause-callsign : goal.from_octets-requires-clause-callsign
from_octets-requires-clause-callsign c =
    let f = c.args.self.now in
    let s = frame_fault-IsSound f.bytes.now f.sound in
    let least = s.size.0 in
    ap has_callsign c.seven_at.ensures.value ∙ callsign-at f.bytes.now s 0 (omega arith)
