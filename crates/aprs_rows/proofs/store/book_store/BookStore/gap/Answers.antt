use Rattle.aprs_rows.proofs.Common.{subst, BookValue, some_millis, millis_of}
use Rattle.aprs_transmissions.specs.BookValue.{IsSoundBook}
use Rattle.aprs_transmissions.proofs.Together.{book_is_sound}
use Rattle.aprs_rows.specs.BookStore.{all_rows}
use Rattle.aprs_rows.proofs.store.book_store.BookStore.gap.Goals as goal

pub returns-clause-sound : goal.returns-clause-sound
returns-clause-sound g c =
    let stored = c.self.invariant in
    subst (λ (b : BookValue). IsSoundBook b) c.self.view_is (record {
      range = stored.range;
      sound = book_is_sound (millis_of c.self.inside.gap) (some_millis c.self.inside.gap stored.range)
          (all_rows c.self.inside.sorted.items c.self.inside.chunk) stored.each;
    })
