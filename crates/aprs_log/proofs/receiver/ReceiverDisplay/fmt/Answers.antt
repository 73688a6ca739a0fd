use Rattle.aprs_log.proofs.Common.{IsUtf8-from_ascii}
use Rattle.aprs_log.proofs.ShownTexts.{IsName-ascii}
use Rattle.aprs_log.proofs.receiver.ReceiverDisplay.fmt.Goals as goal

pub unreachable-requires : goal.unreachable-requires
unreachable-requires g c = c.in-Err.ensures.cases.0
    (rw c.as_bytes.ensures.value (IsUtf8-from_ascii _ (IsName-ascii _ c.as_bytes.ensures.name)))
