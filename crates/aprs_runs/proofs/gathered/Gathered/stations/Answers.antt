use Rattle.aprs_runs.proofs.Common.{Ok, Err, refl, subst, ◌∙◌, err_from_is_err_and, Sends-err, Sends-ok}
use Rattle.aprs_lists.specs.Stations.{IsStationsTable}
use Rattle.aprs_runs.specs.ToldBook.{WritesTold}
use Rattle.aprs_runs.specs.declared.gathered.OutputFault.TheVariants.{Write}
use Rattle.aprs_runs.proofs.gathered.Gathered.stations.Goals as goal

pub returns-in_err-store : goal.returns-in_err-store
unfolding WritesTold
returns-in_err-store g c =
    let p = err_from_is_err_and c.from_residual.result c.from_residual.ensures.1 in
    rw (p.1, p.2) refl

pub returns-in_err-stations : goal.returns-in_err-stations
unfolding WritesTold
returns-in_err-stations g c =
    let p = err_from_is_err_and c.from_residual-in_err-stations.result
    c.from_residual-in_err-stations.ensures.1 in
    rw (p.1, p.2) refl

pub returns-in_err-write_stations : goal.returns-in_err-write_stations
unfolding WritesTold
returns-in_err-write_stations g c =
    let p = err_from_is_err_and c.from_residual-in_err-write_stations.result
    c.from_residual-in_err-write_stations.ensures.1 in
    let shown = c.in_err-write_stations.ensures in
    rw (p.1, p.2) (subst (λ b. WritesTold IsStationsTable g.W.Write.contents (Err Write) b c.args.w.now
    c.write_stations.new.w) (c.in_ok-stations.ensures ∙ c.in_ok-store.ensures.book)
    (shown.0, shown.1, Sends-err (Err Write) refl shown.2))

pub returns : goal.returns
unfolding WritesTold
returns g c =
    let shown = c.in_ok-write_stations.ensures in
    subst (λ b. WritesTold IsStationsTable g.W.Write.contents (Ok tt) b c.args.w.now c.write_stations.new.w)
    (c.in_ok-stations.ensures ∙ c.in_ok-store.ensures.book)
    (shown.0, shown.1, Sends-ok shown.2)
