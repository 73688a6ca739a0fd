use Rattle.aprs_book.proofs.Common.{◌∙◌}
use Rattle.aprs_book.proofs.RefusalEnds.{refused_at_end}
use Rattle.aprs_book.proofs.rows.keyed.KeyedRows.refusal.Goals as goal

pub returns : goal.returns
returns g c =
    c.first_cause.ensures
    ∙ refused_at_end c.args.gap c.last_rows.result.now c.args.self.now c.args.parts.now
    c.last_rows.ensures
