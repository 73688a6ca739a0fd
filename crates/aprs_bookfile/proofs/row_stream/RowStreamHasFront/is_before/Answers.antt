use Rattle.std.proofs.Common.{◌∙◌, None, ap, sym}
use Rattle.std.specs.List.{last_or}
use Rattle.aprs_rows.proofs.Fronts.{less_up_to, not_less_up_to, NotAfter-none, NotAfter-some}
use Rattle.aprs_bookfile.proofs.row_stream.RowStreamHasFront.is_before.Goals as goal

pub returns-in_default-clause-after : goal.returns-in_default-clause-after
returns-in_default-clause-after g c h =
    NotAfter-none _ _ (ap (last_or None) c.in_default.ensures.none)

pub returns-in_default-row-clause-before : goal.returns-in_default-row-clause-before
returns-in_default-row-clause-before g c h =
    NotAfter-none _ _ (ap (last_or None) c.in_default-row.ensures.none)

pub returns-clause-before : goal.returns-clause-before
returns-clause-before g c h =
    NotAfter-some _ _ c.in-Some.row c.in-Some-row.next c.in-Some.ensures.some
    c.in-Some-row.ensures.some
    (less_up_to c.in-Some.row c.in-Some-row.next c.order.result c.order.ensures
    (sym c.is_lt.ensures ∙ h))

pub returns-clause-after : goal.returns-clause-after
returns-clause-after g c h =
    NotAfter-some _ _ c.in-Some-row.next c.in-Some.row c.in-Some-row.ensures.some
    c.in-Some.ensures.some
    (not_less_up_to c.in-Some.row c.in-Some-row.next c.order.result c.order.ensures
    (sym c.is_lt.ensures ∙ h))
