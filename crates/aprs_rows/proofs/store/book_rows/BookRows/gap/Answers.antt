use Rattle.aprs_rows.proofs.Common.{subst, All, BookValue, recursion_from_All, some_millis, millis_of}
use Rattle.aprs_transmissions.specs.BookValue.{IsSoundBook}
use Rattle.aprs_transmissions.proofs.Together.{book_is_sound}
use Rattle.aprs_rows.specs.Told.{HasNamesAndFrame}
use Rattle.aprs_rows.proofs.Told.{told_together}
use Rattle.aprs_rows.proofs.store.book_rows.BookRows.gap.Goals as goal

pub returns-clause-sound : goal.returns-clause-sound
returns-clause-sound g c =
    let coming = c.self.invariant in
    subst (λ (b : BookValue). IsSoundBook b) c.self.view_is (record {
      range = coming.range;
      sound = book_is_sound (millis_of c.self.inside.gap) (some_millis c.self.inside.gap coming.range)
          c.self.inside.merger coming.each;
    })

pub returns-clause-told : goal.returns-clause-told
returns-clause-told g c =
    let rows = c.self.inside.merger in
    subst (λ (b : BookValue). All HasNamesAndFrame b.rows) c.self.view_is
    (told_together (millis_of c.self.inside.gap) rows
    (recursion_from_All HasNamesAndFrame rows c.told.ensures))
