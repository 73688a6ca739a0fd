use Rattle.aprs_details.proofs.Common.{◌≡◌, drop}
use Rattle.aprs_details.specs.CommentTelemetry.{comment_telemetry_of}
use Rattle.aprs_details.proofs.comment_telemetry.CommentTelemetry.read.Given as goal

abbrev pub invariant-loop-i : goal.invariant-loop-i
invariant-loop-i l = comment_telemetry_of (drop l.i l.comment) ≡ comment_telemetry_of l.comment
