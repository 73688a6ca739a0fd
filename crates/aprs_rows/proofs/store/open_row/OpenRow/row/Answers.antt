use Rattle.aprs_rows.proofs.Common.{◌≡◌, List, [], ◌∷◌, Row, subst}
use Rattle.std.specs.Prelude.{IfSome}
use Rattle.aprs_rows.proofs.OpenRows.{last_alone}
use Rattle.aprs_rows.proofs.store.open_row.OpenRow.row.Goals as goal

pub returns-clause-some : goal.returns-clause-some
returns-clause-some g c =
    subst (λ (rows : List Row). IfSome c.last.result (λ x. rows ≡ x ∷ [])) c.self.view_is
    (last_alone c.self.inside.row c.last.result c.self.invariant c.last.ensures.some)
