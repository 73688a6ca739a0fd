use Rattle.std.proofs.Common.{◌∙◌, sym}
use Rattle.aprs_rows.specs.Merger.{first_in}
use Rattle.aprs_rows.proofs.Fronts.{not_less_up_to, NotAfter-some}
use Rattle.aprs_rows.proofs.Merger.{first_ahead}
use Rattle.aprs_rows.proofs.store.front.FrontHasFront.is_before.Goals as goal

pub returns-clause-after : goal.returns-clause-after
returns-clause-after c h =
    NotAfter-some (first_in c.args.other.now) (first_in c.args.self.now) c.in-Some-first.next
    c.in-Some.row
    (first_ahead c.other.inside.first c.other.inside.rest c.args.other.now c.in-Some-first.next
    c.other.view_is c.in-Some-first.is)
    (first_ahead c.self.inside.first c.self.inside.rest c.args.self.now c.in-Some.row
    c.self.view_is c.in-Some.is)
    (not_less_up_to c.in-Some.row c.in-Some-first.next c.order.result c.order.ensures
    (sym c.is_lt.ensures ∙ h))
