use Rattle.aprs_book.proofs.Common.{◌∙◌, ap, flat_map}
use Rattle.aprs_book.proofs.EntryEnds.{rows_of_values}
use Rattle.aprs_book.proofs.rows.keyed.KeyedRows.walk.Goals as goal

pub returns : goal.returns
returns g c =
    c.of.ensures ∙ ap (λ t. flat_map (λ v. v.items) t) c.values.ensures.rest
    ∙ rows_of_values (λ v. v.items) c.self.inside.map.entries ∙ c.self.view_is
