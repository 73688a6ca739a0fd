use Rattle.aprs_book.proofs.Common.{subst}
use Rattle.aprs_book.specs.Keyed.{IsEndOf}
use Rattle.aprs_book.proofs.EntryEnds.{end_of_entries}
use Rattle.aprs_book.proofs.RefusalEnds.{end_of_end}
use Rattle.aprs_book.proofs.rows.keyed.KeyedRows.last_rows.Goals as goal

pub returns-in-Some : goal.returns-in-Some
returns-in-Some g c =
    subst (IsEndOf c.last_part.result.now) c.self.view_is
    (end_of_end _ _ _ c.last_part.ensures (end_of_entries (λ v. v.items) c.self.inside.map.entries
    (c.in-Some.field-0-0.now, c.in-Some.rows.now) c.self.invariant.0.1 c.in-Some.ensures.last))
