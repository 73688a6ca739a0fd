use Rattle.aprs_details.proofs.Common.{sym, ap, ◌∙◌, to_the_end}
use Rattle.aprs_details.specs.CommentTelemetry.{telemetry_at, comment_telemetry_of}
use Rattle.aprs_details.proofs.Firsts.{first_goes_on, first_stops, first_ends}
use Rattle.aprs_details.proofs.comment_telemetry.CommentTelemetry.read.Goals as goal

pub returns-in-Some : goal.returns-in-Some
returns-in-Some c =
    first_stops telemetry_at c.args.comment.now c.loop-i.i c.in-Some.telemetry (comment_telemetry_of c.args.comment.now)
    c.loop-i-test.true (ap telemetry_at (to_the_end c.args.comment.now c.loop-i.i) ∙ sym c.in-Some.ensures)
    c.loop-i.invariant

pub loop-i-preserved : goal.loop-i-preserved
loop-i-preserved c =
    first_goes_on telemetry_at c.args.comment.now c.loop-i.i (comment_telemetry_of c.args.comment.now) c.loop-i-test.true
    (ap telemetry_at (to_the_end c.args.comment.now c.loop-i.i) ∙ sym c.in-None.ensures) c.loop-i.invariant

pub returns : goal.returns
returns c =
    first_ends telemetry_at c.args.comment.now c.loop-i.i (comment_telemetry_of c.args.comment.now) c.loop-i-test.false
    c.loop-i.invariant
