use Rattle.aprs_report.proofs.Common.{sym, ap, ◌∙◌}
use Rattle.aprs_report.specs.Reader.{id_at, text_and_id_of}
use Rattle.aprs_report.proofs.Messages.{to_the_end, starts, goes_on, stops, ends}
use Rattle.aprs_report.proofs.kinds.message.text_and_id.Goals as goal

pub loop-i-init : goal.loop-i-init
loop-i-init c = rw c.saturating_sub-i.ensures (starts c.args.part.now)

pub returns-in-Some : goal.returns-in-Some
returns-in-Some c =
    stops c.args.part.now c.loop-i.i c.in-Some.id.now (text_and_id_of c.args.part.now)
    c.loop-i-test.true (ap id_at (to_the_end c.args.part.now c.loop-i.i) ∙ sym c.in-Some.ensures)
    c.loop-i.invariant

pub loop-i-preserved : goal.loop-i-preserved
loop-i-preserved c =
    goes_on c.args.part.now c.loop-i.i (text_and_id_of c.args.part.now) c.loop-i-test.true
    (ap id_at (to_the_end c.args.part.now c.loop-i.i) ∙ sym c.in-None.ensures) c.loop-i.invariant

pub returns : goal.returns
returns c =
    ends c.args.part.now c.loop-i.i (text_and_id_of c.args.part.now) c.loop-i-test.false
    c.loop-i.invariant
