use Rattle.aprs_book.proofs.Common.{◌∙◌, sym, ap, BookValue, one_value}
use Rattle.aprs_book.proofs.book.Book.same.Goals as goal

pub returns : goal.returns
returns g c = (
  λ t.
      one_value c.args.self.now c.args.other.now (c.fits.ensures.0 c.if-not-fits.false)
      (sym c.walk.ensures.rows ∙ c.same_rows.ensures.0 t ∙ c.walk-2.ensures.rows),
  λ e.
      c.same_rows.ensures.1
      (c.walk.ensures.rows ∙ ap (λ (v : BookValue). v.rows) e ∙ sym c.walk-2.ensures.rows),
)
