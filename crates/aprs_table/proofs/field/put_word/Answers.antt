use Rattle.aprs_table.proofs.Common.{Ok, Err, get_or, arith, get_or_default, Puts-broken, Puts-is, Puts-more, Puts-none}
use Rattle.aprs_table.specs.SpacedLine.{word_byte}
use Rattle.aprs_table.proofs.field.put_word.Goals as goal

pub loop-b-init : goal.loop-b-init
loop-b-init g c = Puts-none _

pub loop-b-preserved : goal.loop-b-preserved
loop-b-preserved g c =
    let bytes = c.args.bytes.now in
    let i = c.loop-b.b-index in
    Puts-more word_byte bytes i (get_or bytes i 0) (omega arith)
    (get_or_default bytes i 0 _ (omega arith)) c.loop-b.invariant
    (Puts-is {r = Ok tt} c.in_ok-put.ensures (cc))

pub returns-in_err-put : goal.returns-in_err-put
returns-in_err-put g c =
    let bytes = c.args.bytes.now in
    let i = c.loop-b.b-index in
    Puts-broken word_byte bytes i (get_or bytes i 0) (omega arith)
    (get_or_default bytes i 0 _ (omega arith)) c.loop-b.invariant c.from_residual.result
    c.from_residual.ensures.0
    (Puts-is {r = Err c.in_err-put.field-0.0} c.in_err-put.ensures (cc))
