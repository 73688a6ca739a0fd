use Rattle.aprs_log.proofs.Common.{[], Err, ap, sym, ◌∙◌}
use Rattle.aprs_log.proofs.Frames.{frame_in-unended, once, fed_nothing, fed_passed, fed_frame, fed_two}
use Rattle.aprs_log.proofs.line.frame_in_line.fed_frame_in.Goals as goal

pub returns-then-is_unended : goal.returns-then-is_unended
returns-then-is_unended c = sym (frame_in-unended c.args.bytes.now (sym c.if-is_unended.ensures))

pub returns-then-has_other_than_ends : goal.returns-then-has_other_than_ends
returns-then-has_other_than_ends c =
    let f = c.feed.ensures in
    let found = once _ _ _ (f.judged [] c.reset.ensures) f.whole (f.ends [] c.reset.ensures) in
    sym (fed_two c.args.bytes.now _ c.if-is_unended.ensures
    c.feed.result.1 found c.if-has_other_than_ends.ensures)

pub returns-in-Nothing : goal.returns-in-Nothing
returns-in-Nothing c =
    let f = c.feed.ensures in
    let found = once _ _ _ (f.judged [] c.reset.ensures) f.whole (f.ends [] c.reset.ensures) in
    fed_nothing c.args.bytes.now _ c.if-is_unended.ensures
    c.feed.result.1 found c.if-has_other_than_ends.ensures c.in-Nothing.is

pub returns-in-Passed : goal.returns-in-Passed
returns-in-Passed c =
    let f = c.feed.ensures in
    let found = once _ _ _ (f.judged [] c.reset.ensures) f.whole (f.ends [] c.reset.ensures) in
    fed_passed c.args.bytes.now _ c.if-is_unended.ensures
    c.feed.result.1 found c.if-has_other_than_ends.ensures c.in-Passed.fault c.in-Passed.is
    ∙ ap Err (sym c.from.ensures)

pub returns-in-Frame : goal.returns-in-Frame
returns-in-Frame c =
    let f = c.feed.ensures in
    let found = once _ _ _ (f.judged [] c.reset.ensures) f.whole (f.ends [] c.reset.ensures) in
    fed_frame c.args.bytes.now _ c.if-is_unended.ensures
    c.feed.result.1 found c.if-has_other_than_ends.ensures c.in-Frame.port c.in-Frame.frame
    c.in-Frame.is
