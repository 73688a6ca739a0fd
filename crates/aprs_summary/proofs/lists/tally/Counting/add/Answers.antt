use Rattle.aprs_summary.proofs.Common.{◌∙◌, ◌+◌, ap, sym, arith, insert_entry, is_eq, Call, call_cmp}
use Rattle.aprs_summary.specs.StationRows.{tally_of}
use Rattle.aprs_summary.proofs.Stations.{is_source, tally_of_last, one_more_of_last}
use Rattle.aprs_summary.proofs.lists.tally.Counting.add.Goals as goal

pub overflow_add-self : goal.overflow_add-self
overflow_add-self g c =
    let few = tally_of_last c.self.inside.map.entries c.args.station.now c.in-Some.last
    c.self.inside.last c.args.self.now c.self.view_is (sym c.take.ensures.value ∙ c.in-Some.is)
    (is_source c.args.station.now c.in-Some.last.station
    (sym (ap is_eq c.cmp.ensures) ∙ sym c.is_eq.ensures ∙ c.if-is_eq.true)) in
    omega (arith, c.requires, few)

pub invariant_of-self : goal.invariant_of-self
invariant_of-self g c =
    let own = is_source c.args.station.now c.in-Some.last.station
    (sym (ap is_eq c.cmp.ensures) ∙ sym c.is_eq.ensures ∙ c.if-is_eq.true) in
    let few = tally_of_last c.self.inside.map.entries c.args.station.now c.in-Some.last
    c.self.inside.last c.args.self.now c.self.view_is (sym c.take.ensures.value ∙ c.in-Some.is) own in
    let same = ap (λ (k : Call). tally_of k c.self.inside.map.entries) own in
    omega (arith, c.requires, few, same)

pub returns-in-Some : goal.returns-in-Some
returns-in-Some g c =
    let own = is_source c.args.station.now c.in-Some.last.station
    (sym (ap is_eq c.cmp.ensures) ∙ sym c.is_eq.ensures ∙ c.if-is_eq.true) in
    ap (λ (k : Call). insert_entry call_cmp c.self.inside.map.entries k
    (tally_of k c.self.inside.map.entries + (c.in-Some.last.rows + 1))) own
    ∙ one_more_of_last c.self.inside.map.entries c.args.station.now c.in-Some.last
    c.self.inside.last c.args.self.now c.self.view_is (sym c.take.ensures.value ∙ c.in-Some.is) own
