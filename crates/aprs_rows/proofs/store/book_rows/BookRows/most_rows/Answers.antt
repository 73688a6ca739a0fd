use Rattle.aprs_rows.proofs.Common.{ap, arith, length, millis_of, BookValue}
use Rattle.aprs_rows.proofs.Counts.{book_fits}
use Rattle.aprs_rows.proofs.store.book_rows.BookRows.most_rows.Goals as goal

pub returns : goal.returns
returns g c =
    let rows = ap (λ (b : BookValue). length b.rows) c.self.view_is in
    let fits = book_fits (millis_of c.self.inside.gap) c.self.inside.merger in
    omega (arith, rows, fits, c.self.invariant.fits, c.left.ensures)
