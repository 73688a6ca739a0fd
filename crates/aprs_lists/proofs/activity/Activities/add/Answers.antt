use Rattle.aprs_lists.proofs.Common.{◌∙◌, Some, ap, subst, sym, Call, Option}
use Rattle.std.proofs.Common.{◌<◌}
use Rattle.std.specs.BTreeMap.{insert_entry}
use Rattle.std.specs.Ordering.{is_eq}
use Rattle.aprs_ax25.specs.Callsign.{call_cmp}
use Rattle.aprs_lists.proofs.Activities.{kept_of_last, more_of_last, same_call}
use Rattle.aprs_lists.specs.Activity.{passed_kept, with_row}
use Rattle.aprs_lists.specs.declared.activity.Activity.{Activity}
use Rattle.aprs_lists.proofs.activity.Activities.add.Goals as goal

pub with_row-requires : goal.with_row-requires
with_row-requires g c =
    subst (λ (o : Option Activity). passed_kept o < 18446744073709551615)
    (kept_of_last c.self.inside.map.entries c.args.station.now c.in-Some.last c.self.inside.last
    c.args.self.now c.self.view_is (sym c.take.ensures.value ∙ c.in-Some.is)
    (same_call c.in-Some.last.station c.args.station.now
    (sym (ap is_eq c.cmp.ensures) ∙ sym c.is_eq.ensures ∙ c.if-is_eq.true))) c.requires

pub returns-in-Some : goal.returns-in-Some
returns-in-Some g c =
    let own = same_call c.in-Some.last.station c.args.station.now
    (sym (ap is_eq c.cmp.ensures) ∙ sym c.is_eq.ensures ∙ c.if-is_eq.true) in
    ap (λ (a : Activity). insert_entry call_cmp c.self.inside.map.entries c.in-Some.last.station a)
    c.with_row.ensures
    ∙ ap (λ (k : Call). insert_entry call_cmp c.self.inside.map.entries k
    (with_row (Some c.in-Some.last.activity) c.args.moment c.args.passes)) own
    ∙ more_of_last c.self.inside.map.entries c.args.station.now c.in-Some.last c.self.inside.last
    c.args.self.now c.self.view_is (sym c.take.ensures.value ∙ c.in-Some.is) own c.args.moment
    c.args.passes
