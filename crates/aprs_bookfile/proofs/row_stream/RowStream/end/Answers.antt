use Rattle.aprs_bookfile.proofs.Common.{◌-◌, ◌∙◌, arith, sym, err_from_is_err_and, IfErr-weaker}
use Rattle.aprs_bookfile.proofs.RowStreams.{ends_here, ends_more, ends_rest}
use Rattle.aprs_bookfile.proofs.Standing.{ending_not_memory, ends_err}
use Rattle.aprs_bookfile.proofs.row_stream.RowStream.end.Goals as goal

pub returns-in_err-refuse_rest-clause-answer : goal.returns-in_err-refuse_rest-clause-answer
returns-in_err-refuse_rest-clause-answer g c =
    let p = err_from_is_err_and c.from_residual.result c.from_residual.ensures.1 in
    rw (p.1, p.2) (ends_rest g.R.Read.remaining c.args.source.now c.args.self.now _
    c.in_err-refuse_rest.ensures.fault)

pub returns-in_err-refuse_rest-clause-refused : goal.returns-in_err-refuse_rest-clause-refused
returns-in_err-refuse_rest-clause-refused g c =
    let p = err_from_is_err_and c.from_residual.result c.from_residual.ensures.1 in
    rw (p.1, p.2) (λ e. absurd (let f = sym c.in_err-refuse_rest.ensures.fault.0 ∙ e in cc))

pub returns-in-Ok-clause-answer : goal.returns-in-Ok-clause-answer
returns-in-Ok-clause-answer g c =
    let some = c.in-Ok.ensures.some in
    rw c.fault.ensures (ends_more g.R.Read.remaining c.args.source.now c.args.self.now
    c.requires.done c.refill.new.source _ (c.args.self.now.left - c.in-Ok.field-0)
    c.in_ok-refuse_rest.ensures.none (omega (arith, some)) c.in-Ok.ensures.few (omega (arith, some))
    c.in-Ok.ensures.got c.in-Ok.ensures.calls)

pub returns-in-Err-clause-answer : goal.returns-in-Err-clause-answer
returns-in-Err-clause-answer g c =
    ends_here g.R.Read.remaining c.args.source.now c.args.self.now c.refill.new.source
    c.in-Err.ending c.in_ok-refuse_rest.ensures.none c.in-Err.ensures.end.1 c.in-Err.ensures.calls
    c.finish.result c.finish.ensures.ending c.finish.ensures.reads

pub returns-in-Err-clause-refused : goal.returns-in-Err-clause-refused
returns-in-Err-clause-refused g c = IfErr-weaker c.finish.result _ _
    (λ f is e. ending_not_memory c.in-Err.ending (sym is ∙ e))
    (ends_err _ _ c.finish.ensures.ending)
