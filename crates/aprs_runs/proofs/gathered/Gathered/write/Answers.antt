use Rattle.aprs_runs.proofs.Common.{Ok, Err, refl, subst, ◌∙◌, ap, err_from_is_err_and, Sends-err, Sends-ok, BookValue}
use Rattle.aprs_runs.specs.Gathered.{WritesText}
use Rattle.aprs_runs.specs.declared.gathered.OutputFault.TheVariants.{Write}
use Rattle.aprs_runs.proofs.gathered.Gathered.write.Goals as goal

pub returns-in_err-store : goal.returns-in_err-store
unfolding WritesText
returns-in_err-store g c =
    let p = err_from_is_err_and c.from_residual.result c.from_residual.ensures.1 in
    rw (p.1, p.2) (refl, c.in_err-store.ensures.some)

pub returns-in_err-rows : goal.returns-in_err-rows
unfolding WritesText
returns-in_err-rows g c =
    let p = err_from_is_err_and c.from_residual-in_err-rows.result
    c.from_residual-in_err-rows.ensures.1 in
    rw (p.1, p.2) (
      refl,
      λ none. c.in_err-rows.ensures.some
          (ap (λ (b : BookValue). b.rows) c.in_ok-store.ensures.book ∙ none),
    )

pub returns-in_err-write_rows : goal.returns-in_err-write_rows
unfolding WritesText
returns-in_err-write_rows g c =
    let p = err_from_is_err_and c.from_residual-in_err-write_rows.result
    c.from_residual-in_err-write_rows.ensures.1 in
    rw (p.1, p.2) (subst (λ b. WritesText g.W.Write.contents (Err Write) b c.args.w.now
    c.write_rows.new.w) (c.in_ok-rows.ensures.book ∙ c.in_ok-store.ensures.book)
    (Sends-err (Err Write) refl c.in_err-write_rows.ensures.sends))

pub returns : goal.returns
unfolding WritesText
returns g c =
    subst (λ b. WritesText g.W.Write.contents (Ok tt) b c.args.w.now c.write_rows.new.w)
    (c.in_ok-rows.ensures.book ∙ c.in_ok-store.ensures.book)
    (Sends-ok c.in_ok-write_rows.ensures.sends)
