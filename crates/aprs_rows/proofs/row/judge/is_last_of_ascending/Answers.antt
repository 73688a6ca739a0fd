use Rattle.aprs_rows.proofs.Common.{◌∙◌, sym, ap, is_lt}
use Rattle.aprs_rows.proofs.Judgements.{first_seen, next_seen, has_it, is_it}
use Rattle.aprs_rows.proofs.row.judge.is_last_of_ascending.Goals as goal

pub loop-next-init : goal.loop-next-init
loop-next-init c =
    let s = first_seen c.args.text.now c.args.name.now c.in-Some.first.now c.in-Some.others.now
    c.is_same_name-has_name.result c.in-Some.ensures.some c.is_same_name-has_name.ensures in
    record { ascending = s.ascending; named = s.named; last = s.last }

pub loop-next-preserved-then-has_name : goal.loop-next-preserved-then-has_name
loop-next-preserved-then-has_name c =
    let s = next_seen c.args.text.now c.args.name.now c.loop-next.before.now c.loop-next.rest.now
    c.in-Some-cut_name.next.now c.in-Some-cut_name.after.now c.loop-next.has_name
    c.loop-next.has_name
    (record {
      ascending = c.loop-next.invariant.ascending;
      named = c.loop-next.invariant.named;
      last = c.loop-next.invariant.last;
    })
    c.in-Some-cut_name.ensures.some
    (sym (ap is_lt c.cmp.ensures) ∙ sym c.is_lt.ensures ∙ c.if-not-is_lt.false)
    (has_it c.loop-next.has_name _ c.if-has_name.true) in
    record { ascending = s.ascending; named = s.named; last = s.last }

pub loop-next-preserved : goal.loop-next-preserved
loop-next-preserved c =
    let s = next_seen c.args.text.now c.args.name.now c.loop-next.before.now c.loop-next.rest.now
    c.in-Some-cut_name.next.now c.in-Some-cut_name.after.now c.loop-next.has_name
    c.is_same_name-has_name-else-has_name.result
    (record {
      ascending = c.loop-next.invariant.ascending;
      named = c.loop-next.invariant.named;
      last = c.loop-next.invariant.last;
    })
    c.in-Some-cut_name.ensures.some
    (sym (ap is_lt c.cmp.ensures) ∙ sym c.is_lt.ensures ∙ c.if-not-is_lt.false)
    (is_it c.loop-next.has_name _ _ c.if-has_name.false
    c.is_same_name-has_name-else-has_name.ensures) in
    record { ascending = s.ascending; named = s.named; last = s.last }
