use Rattle.aprs_fold.proofs.Common.{Ok, rules, subst, Sends, Sends-put}
use Rattle.aprs_io.proofs.Sends.{Sends-ok}
use Rattle.aprs_bookfile.specs.Text.{written_text}
use Rattle.aprs_fold.specs.News.{news_of_sources, LeavesPart}
use Rattle.aprs_fold.specs.declared.fault.FoldFault.{FoldFault}
use Rattle.aprs_fold.specs.declared.fault.FoldFault.TheVariants.{Write}
use Rattle.aprs_fold.proofs.InErr.{in_err}
use Rattle.aprs_fold.proofs.NewTexts.{news_part, news_unsent}
use Rattle.aprs_fold.proofs.news.fold_news.Goals as goal

pub returns-in_err-put_news_text-clause-left : goal.returns-in_err-put_news_text-clause-left
returns-in_err-put_news_text-clause-left g c =
    in_err _ _ c.from_residual.ensures.1 (subst (λ w. LeavesPart g.W.Write.contents c.args.gap
    c.in_err-put_news_text.field-0.0 c.args.w.now w) (search rules)
    (news_part g.W.Write.contents c.args.gap c.args.w.now c.new-out.result
    c.put_news_text.new.out c.new-out.ensures.nothing c.in_err-put_news_text.field-0.0
    c.in_err-put_news_text.ensures.left))

pub returns-in_err-flush-clause-left : goal.returns-in_err-flush-clause-left
returns-in_err-flush-clause-left g c =
    let h = c.in_ok-put_news_text.ensures.news in
    in_err _ _ c.from_residual-in_err-flush.ensures.1
    (subst (λ w. LeavesPart g.W.Write.contents c.args.gap Write c.args.w.now w)
    (search rules) (news_unsent g.W.Write.contents c.args.gap c.args.w.now _
    (news_of_sources c.args.range.now c.args.gap h.0).rows h.3
    (Sends-put c.new-out.ensures.nothing h.2 c.in_err-flush.ensures.sent)))

pub returns-clause-news : goal.returns-clause-news
returns-clause-news g c =
    let h = c.in_ok-put_news_text.ensures.news in (
      h.0,
      h.1,
      subst (λ w. Sends {E = FoldFault} g.W.Write.contents (Ok tt) c.args.w.now w
          (written_text (news_of_sources c.args.range.now c.args.gap h.0))) (search rules)
          (Sends-ok (Sends-put c.new-out.ensures.nothing h.2 c.in_ok-flush.ensures.sent)),
      h.3,
    )
