use Rattle.aprs_bookfile.proofs.Common.{◌∙◌, ◌∷◌, ◌+◌, ap, sym, arith, take, eqb, take_rest}
use Rattle.aprs_bookfile.specs.Lines.{pieces}
use Rattle.aprs_bookfile.proofs.Cuts.{byte_is, lacks_of, pieces_end, pieces_first}
use Rattle.aprs_bookfile.proofs.cut.cut_near.Goals as goal

pub returns-then-text-i-clause-pieces : goal.returns-then-text-i-clause-pieces
returns-then-text-i-clause-pieces c =
    let t = c.args.text.now in
    let i = c.loop-i.i in
    pieces_first c.args.stop i (i + 1) t (omega arith) (omega arith) c.loop-i.invariant
    (ap (λ b. eqb b c.args.stop) c.if-text-i.true ∙ byte_is c.args.stop)
    ∙ ap (λ r. take i t ∷ pieces c.args.stop r) (sym (take_rest t (i + 1)))

pub returns-clause-none : goal.returns-clause-none
returns-clause-none c = lacks_of c.args.stop c.args.text.now
    (λ k h. c.loop-i.invariant k (omega arith))

pub returns-clause-one : goal.returns-clause-one
returns-clause-one c = pieces_end c.args.stop c.args.text.now
    (lacks_of c.args.stop c.args.text.now (λ k h. c.loop-i.invariant k (omega arith)))
