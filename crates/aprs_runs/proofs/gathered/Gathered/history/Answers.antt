use Rattle.aprs_runs.proofs.Common.{Ok, Err, refl, subst, ◌∙◌, err_from_is_err_and, Sends-err, Sends-ok}
use Rattle.aprs_runs.specs.ToldBook.{IsHistory, WritesTold}
use Rattle.aprs_runs.specs.declared.gathered.OutputFault.TheVariants.{Write}
use Rattle.aprs_runs.proofs.gathered.Gathered.history.Goals as goal

pub returns-in_err-store : goal.returns-in_err-store
unfolding WritesTold
returns-in_err-store g c =
    let p = err_from_is_err_and c.from_residual.result c.from_residual.ensures.1 in
    rw (p.1, p.2) refl

pub returns-in_err-rows : goal.returns-in_err-rows
unfolding WritesTold
returns-in_err-rows g c =
    let p = err_from_is_err_and c.from_residual-in_err-rows.result
    c.from_residual-in_err-rows.ensures.1 in
    rw (p.1, p.2) refl

pub returns-in_err-write_history : goal.returns-in_err-write_history
unfolding WritesTold
returns-in_err-write_history g c =
    let p = err_from_is_err_and c.from_residual-in_err-write_history.result
    c.from_residual-in_err-write_history.ensures.1 in
    rw (p.1, p.2) (subst (λ b. WritesTold IsHistory g.W.Write.contents (Err Write) b c.args.w.now
    c.write_history.new.w) (c.in_ok-rows.ensures.book ∙ c.in_ok-store.ensures.book) (
      _,
      (c.in_err-write_history.ensures.lines, refl),
      Sends-err (Err Write) refl c.in_err-write_history.ensures.sends,
    ))

pub returns : goal.returns
unfolding WritesTold
returns g c =
    subst (λ b. WritesTold IsHistory g.W.Write.contents (Ok tt) b c.args.w.now
    c.write_history.new.w) (c.in_ok-rows.ensures.book ∙ c.in_ok-store.ensures.book) (
      _,
      (c.in_ok-write_history.ensures.lines, refl),
      Sends-ok c.in_ok-write_history.ensures.sends,
    )
