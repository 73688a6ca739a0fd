use Rattle.aprs_rows.proofs.Common.{◌≡◌, ◌∙◌, ℕ, List, Option, None, Some, IfNone, sym, option_copied, millis_of, Row, IsSoundRow, RowCause}
use Rattle.aprs_rows.specs.Judging.{list_of}
use Rattle.aprs_rows.specs.Refusal.{refusal}
use Rattle.aprs_rows.proofs.Judgements.{same_refusal, free_is_sound}
use Rattle.aprs_rows.proofs.row.row_view.RowView.refusal_after.Goals as goal

pub returns-clause-cause : goal.returns-clause-cause
returns-clause-cause c rows e =
    c.first_cause.ensures
    ∙ same_refusal (millis_of c.args.gap) rows (option_copied c.args.before) c.args.self.now e

-- a row that is not refused is sound
sound : (gap : ℕ) (rows : List Row) (x : Row) (r : Option RowCause) → r ≡ refusal gap rows x
    → IfNone r (IsSoundRow x)
sound gap rows x None e = free_is_sound gap rows x (sym e)
sound gap rows x (Some _) e = tt

pub returns-clause-sound : goal.returns-clause-sound
returns-clause-sound c =
    sound (millis_of c.args.gap) (list_of (option_copied c.args.before)) c.args.self.now
    c.first_cause.result c.first_cause.ensures
