use Rattle.std.proofs.lemmas.List.{get_or_default}
use Rattle.aprs_io.proofs.Common.{Ok, Err, get_or, sym, arith}
use Rattle.aprs_io.proofs.Outlets.{Puts-broken, Puts-is, Puts-more, Puts-none}
use Rattle.aprs_io.proofs.Shows.{shown-plain}
use Rattle.aprs_io.specs.Shown.{shown_byte}
use Rattle.aprs_io.proofs.shown.put_shown.Goals as goal

pub returns-then-are_shown : goal.returns-then-are_shown
returns-then-are_shown g c = Puts-is c.put.ensures
    (shown-plain c.args.bytes.now (sym c.if-are_shown.ensures))

pub loop-b-init : goal.loop-b-init
loop-b-init g c = Puts-none _

pub loop-b-preserved : goal.loop-b-preserved
loop-b-preserved g c =
    let bytes = c.args.bytes.now in
    let i = c.loop-b.b-index in
    Puts-more shown_byte bytes i (get_or bytes i 0) (omega arith)
    (get_or_default bytes i 0 _ (omega arith)) c.loop-b.invariant
    (Puts-is {r = Ok tt} c.in_ok-put.ensures (cc))

pub returns-in_err-put : goal.returns-in_err-put
returns-in_err-put g c =
    let bytes = c.args.bytes.now in
    let i = c.loop-b.b-index in
    Puts-broken shown_byte bytes i (get_or bytes i 0) (omega arith)
    (get_or_default bytes i 0 _ (omega arith)) c.loop-b.invariant c.from_residual.result
    c.from_residual.ensures.0
    (Puts-is {r = Err c.in_err-put.field-0.0} c.in_err-put.ensures (cc))
