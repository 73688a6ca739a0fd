use Rattle.aprs_details.proofs.Common.{◌≡◌, drop}
use Rattle.aprs_details.specs.Precision.{precision_of}
use Rattle.aprs_details.proofs.precision.Precision.of_comment.Given as goal

abbrev pub invariant-loop-i : goal.invariant-loop-i
invariant-loop-i l = precision_of (drop l.i l.comment) ≡ precision_of l.comment
