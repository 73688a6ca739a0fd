use Rattle.aprs_rows.proofs.Common.{◌∙◌}
use Rattle.aprs_rows.proofs.InStore.{book_same}
use Rattle.aprs_rows.proofs.store.book_store.BookStore.close_full.Goals as goal

pub invariant_of-self : goal.invariant_of-self
invariant_of-self g c =
    (book_same c.self.inside.gap c.self.inside.sorted.items c.close.new.sorted.items
    c.self.inside.chunk c.close.new.chunk c.self.invariant c.close.ensures.members
    (c.close.ensures.ordered c.self.invariant.ordered)).0

pub returns : goal.returns
returns g c =
    (book_same c.self.inside.gap c.self.inside.sorted.items c.close.new.sorted.items
    c.self.inside.chunk c.close.new.chunk c.self.invariant c.close.ensures.members
    (c.close.ensures.ordered c.self.invariant.ordered)).1 ∙ c.self.view_is
