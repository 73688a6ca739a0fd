use Rattle.std.proofs.lemmas.Str.{IsUtf8-from_ascii}
use Rattle.aprs_ax25.proofs.CallTexts.{IsAscii-call_text}
use Rattle.aprs_ax25.proofs.callsign.CallsignDisplay.fmt.Goals as goal

pub unreachable-requires : goal.unreachable-requires
unreachable-requires g c = c.in-Err.ensures.cases.0
    (rw (c.as_slice.ensures.value, c.text.ensures.text)
    (IsUtf8-from_ascii _ (IsAscii-call_text c.args.self.now c.text.ensures.callsign)))
