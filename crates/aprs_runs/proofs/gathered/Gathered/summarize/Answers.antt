use Rattle.aprs_runs.proofs.Common.{Ok, Err, refl, subst, ◌∙◌, err_from_is_err_and, Sends-err, Sends-ok}
use Rattle.aprs_runs.specs.Extract.{IsSummarized}
use Rattle.aprs_runs.specs.ToldBook.{WritesTold}
use Rattle.aprs_runs.specs.declared.gathered.OutputFault.TheVariants.{Write}
use Rattle.aprs_runs.proofs.gathered.Gathered.summarize.Goals as goal

pub returns-in_err-store : goal.returns-in_err-store
unfolding WritesTold
returns-in_err-store g c =
    let p = err_from_is_err_and c.from_residual.result c.from_residual.ensures.1 in
    rw (p.1, p.2) refl

pub returns-in_err-summary : goal.returns-in_err-summary
unfolding WritesTold
returns-in_err-summary g c =
    let p = err_from_is_err_and c.from_residual-in_err-summary.result
    c.from_residual-in_err-summary.ensures.1 in
    rw (p.1, p.2) refl

pub returns-in_err-write_summarized : goal.returns-in_err-write_summarized
unfolding WritesTold
returns-in_err-write_summarized g c =
    let p = err_from_is_err_and c.from_residual-in_err-write_summarized.result
    c.from_residual-in_err-write_summarized.ensures.1 in
    let shown = c.in_err-write_summarized.ensures in
    rw (p.1, p.2) (subst (λ b. WritesTold (IsSummarized c.args.what) g.W.Write.contents (Err Write) b c.args.w.now
    c.write_summarized.new.w) (c.in_ok-summary.ensures ∙ c.in_ok-store.ensures.book)
    (shown.0, shown.1, Sends-err (Err Write) refl shown.2))

pub returns : goal.returns
unfolding WritesTold
returns g c =
    let shown = c.in_ok-write_summarized.ensures in
    subst (λ b. WritesTold (IsSummarized c.args.what) g.W.Write.contents (Ok tt) b c.args.w.now c.write_summarized.new.w)
    (c.in_ok-summary.ensures ∙ c.in_ok-store.ensures.book)
    (shown.0, shown.1, Sends-ok shown.2)
