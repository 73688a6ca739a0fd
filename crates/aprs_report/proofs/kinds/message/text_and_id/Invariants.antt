use Rattle.aprs_report.proofs.Common.{◌≡◌, take, drop}
use Rattle.aprs_report.specs.Reader.{text_and_id_of}
use Rattle.aprs_report.proofs.Messages.{with_prefix}
use Rattle.aprs_report.proofs.kinds.message.text_and_id.Given as goal

abbrev pub invariant-loop-i : goal.invariant-loop-i
invariant-loop-i l =
    with_prefix (take l.i l.part) (text_and_id_of (drop l.i l.part)) ≡ text_and_id_of l.part
