use Rattle.aprs_log.proofs.Common.{◌∙◌}
use Rattle.aprs_log.proofs.FirstFields.{digits_fit, line_of-takes, line_of-takes_no_moment, line_of-takes_no_name}
use Rattle.aprs_log.proofs.Lines.{line_of-long}
use Rattle.aprs_log.proofs.line.read_fields.Goals as goal

pub returns-then-line-gt-MAX_LINE-clause-line : goal.returns-then-line-gt-MAX_LINE-clause-line
returns-then-line-gt-MAX_LINE-clause-line c =
    line_of-long c.args.line.now c.if-line-gt-MAX_LINE.true

pub returns-in_default-clause-line : goal.returns-in_default-clause-line
returns-in_default-clause-line c =
    line_of-takes_no_moment c.args.line.now c.if-line-gt-MAX_LINE.false
    c.in_default.ensures

pub returns-in_default-take_receiver-clause-line : goal.returns-in_default-take_receiver-clause-line
returns-in_default-take_receiver-clause-line c =
    line_of-takes_no_name c.args.line.now c.if-line-gt-MAX_LINE.false _ _ c.in-Some.ensures
    c.in_default-take_receiver.ensures

pub read_within-requires : goal.read_within-requires
read_within-requires c =
    digits_fit c.args.line.now c.if-line-gt-MAX_LINE.false _ _ c.in-Some.ensures _ _
    c.in-Some-take_receiver.ensures

pub returns-clause-line : goal.returns-clause-line
returns-clause-line c =
    c.read_within.ensures.line
    ∙ line_of-takes c.args.line.now c.if-line-gt-MAX_LINE.false _ _ c.in-Some.ensures _ _
    c.in-Some-take_receiver.ensures
