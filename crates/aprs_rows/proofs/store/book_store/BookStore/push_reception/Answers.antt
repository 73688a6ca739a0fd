use Rattle.aprs_rows.proofs.Common.{◌∙◌, ap, BookValue, single, millis_of}
use Rattle.aprs_transmissions.specs.JoinRow.{join_row}
use Rattle.aprs_rows.specs.BookStore.{book_stored}
use Rattle.aprs_rows.proofs.InStore.{pushed, pushed_still}
use Rattle.aprs_rows.proofs.Rows.{on_ok}
use Rattle.aprs_rows.proofs.store.book_store.BookStore.push_reception.Goals as goal

pub invariant_of-self : goal.invariant_of-self
invariant_of-self g c =
    pushed_still c.push_reception.result c.self.inside.gap c.self.inside.sorted.items
    c.self.inside.chunk c.push_reception.new.self c.args.x.now c.self.invariant
    c.push_reception.ensures.pushed c.push_reception.ensures.unchanged

pub returns-clause-pushed : goal.returns-clause-pushed
returns-clause-pushed g c =
    on_ok c.push_reception.result
    (λ e. ap (book_stored c.self.inside.gap c.self.inside.sorted.items) e
    ∙ (pushed c.self.inside.gap c.self.inside.sorted.items c.self.inside.chunk c.args.x.now
    c.self.invariant).book_is
    ∙ ap (λ (b : BookValue). record {
      gap = b.gap;
      rows = join_row (millis_of b.gap) b.rows (single c.args.x.now);
    }) (c.self.view_is ∙ c.close_full.ensures))
    c.push_reception.ensures.pushed
