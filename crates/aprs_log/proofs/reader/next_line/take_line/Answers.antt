use Rattle.aprs_log.proofs.Common.{◌∙◌, ap, length, arith, taken}
use Rattle.aprs_log.proofs.reader.next_line.take_line.Goals as goal

pub consume-requires : goal.consume-requires
consume-requires c = (taken 10 _ _ _ c.in-Some.ensures c.as_slice.ensures.value).used

pub returns-clause-some : goal.returns-clause-some
returns-clause-some c =
    let t = taken 10 _ _ _ c.in-Some.ensures c.as_slice.ensures.value in
    (_, t.is, c.read_fields-answer.ensures.line, c.consume.ensures ∙ t.left)

pub returns-clause-shorter : goal.returns-clause-shorter
returns-clause-shorter c =
    let t = taken 10 _ _ _ c.in-Some.ensures c.as_slice.ensures.value in
    omega (arith, t.len, ap length (c.consume.ensures ∙ t.left))
