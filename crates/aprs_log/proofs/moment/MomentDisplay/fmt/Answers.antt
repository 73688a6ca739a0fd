use Rattle.aprs_log.proofs.Common.{IsUtf8-from_ascii}
use Rattle.aprs_log.proofs.Moments.{moment_of-text}
use Rattle.aprs_log.proofs.ShownTexts.{MomentText-ascii}
use Rattle.aprs_log.proofs.moment.MomentDisplay.fmt.Goals as goal

pub unreachable-requires : goal.unreachable-requires
unreachable-requires g c = c.in-Err.ensures.cases.0
    (IsUtf8-from_ascii _ (MomentText-ascii _ _ (moment_of-text _ _ c.text.ensures.reads_back)))
