use Rattle.aprs_runs.proofs.Common.{◌≡◌, Ok, Err, refl, subst, ◌∙◌, err_from_is_err_and, Sends-err, Sends-ok}
use Rattle.aprs_table.specs.Table.{table_text}
use Rattle.aprs_runs.specs.ToldBook.{WritesTold}
use Rattle.aprs_runs.specs.declared.gathered.OutputFault.TheVariants.{Write}
use Rattle.aprs_runs.proofs.gathered.Gathered.table_of_rows.Goals as goal

pub returns-in_err-store : goal.returns-in_err-store
unfolding WritesTold
returns-in_err-store g c =
    let p = err_from_is_err_and c.from_residual.result c.from_residual.ensures.1 in
    rw (p.1, p.2) refl

pub returns-in_err-rows : goal.returns-in_err-rows
unfolding WritesTold
returns-in_err-rows g c =
    let p = err_from_is_err_and c.from_residual-in_err-rows.result
    c.from_residual-in_err-rows.ensures.1 in
    rw (p.1, p.2) refl

pub returns-in_err-write_table : goal.returns-in_err-write_table
unfolding WritesTold
returns-in_err-write_table g c =
    let p = err_from_is_err_and c.from_residual-in_err-write_table.result
    c.from_residual-in_err-write_table.ensures.1 in
    rw (p.1, p.2) (subst (λ b. WritesTold (λ book text. text ≡ table_text book.rows) g.W.Write.contents (Err Write) b c.args.w.now
    c.write_table.new.w) (c.in_ok-rows.ensures.book ∙ c.in_ok-store.ensures.book) (
      _,
      refl,
      Sends-err (Err Write) refl c.in_err-write_table.ensures,
    ))

pub returns : goal.returns
unfolding WritesTold
returns g c =
    subst (λ b. WritesTold (λ book text. text ≡ table_text book.rows) g.W.Write.contents (Ok tt) b c.args.w.now
    c.write_table.new.w) (c.in_ok-rows.ensures.book ∙ c.in_ok-store.ensures.book) (
      _,
      refl,
      Sends-ok c.in_ok-write_table.ensures,
    )
