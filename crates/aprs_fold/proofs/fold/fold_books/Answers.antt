use Rattle.aprs_fold.proofs.Common.{Ok, rules, subst, Sends, Sends-put}
use Rattle.aprs_io.proofs.Sends.{Sends-ok}
use Rattle.aprs_bookfile.specs.Text.{written_text}
use Rattle.aprs_fold.specs.Fold.{IsLeft}
use Rattle.aprs_fold.specs.Range.{book_of_sources}
use Rattle.aprs_fold.specs.declared.fault.FoldFault.{FoldFault}
use Rattle.aprs_fold.specs.declared.fault.FoldFault.TheVariants.{Write}
use Rattle.aprs_fold.proofs.InErr.{in_err}
use Rattle.aprs_fold.proofs.Texts.{leaves_sent, leaves_text}
use Rattle.aprs_fold.proofs.fold.fold_books.Goals as goal

pub returns-in_err-put_text-clause-left : goal.returns-in_err-put_text-clause-left
returns-in_err-put_text-clause-left g c =
    in_err _ _ c.from_residual.ensures.1
    (subst (λ w. IsLeft g.R.Read.remaining g.W.Write.contents c.args.limit c.args.gap
    c.args.range.now c.in_err-put_text.field-0.0 c.args.inputs.now c.put_text.new.inputs
    c.args.w.now w) (search rules) (leaves_text c.args.w.now c.new-out.result c.put_text.new.out
    c.new-out.ensures.nothing c.in_err-put_text.field-0.0 c.in_err-put_text.ensures.left))

pub returns-in_err-flush-clause-left : goal.returns-in_err-flush-clause-left
returns-in_err-flush-clause-left g c =
    let h = c.in_ok-put_text.ensures.folds in
    in_err _ _ c.from_residual-in_err-flush.ensures.1
    (subst (λ w. IsLeft g.R.Read.remaining g.W.Write.contents c.args.limit c.args.gap
    c.args.range.now Write c.args.inputs.now c.put_text.new.inputs c.args.w.now w) (search rules)
    (leaves_sent h.3 (Sends-put c.new-out.ensures.nothing h.2 c.in_err-flush.ensures.sent)))

pub returns-clause-folds : goal.returns-clause-folds
returns-clause-folds g c =
    let h = c.in_ok-put_text.ensures.folds in (
      h.0,
      h.1,
      subst (λ w. Sends {E = FoldFault} g.W.Write.contents (Ok tt) c.args.w.now w
          (written_text (book_of_sources c.args.range.now c.args.gap h.0))) (search rules)
          (Sends-ok (Sends-put c.new-out.ensures.nothing h.2 c.in_ok-flush.ensures.sent)),
      h.3.whole,
    )
