use Rattle.aprs_summary.proofs.Common.{◌∙◌, ◌∷◌, ◌++◌, [], map, ap, sym, subst, append-nil, append_assoc, rest_more, rest_all, deref_pair}
use Rattle.aprs_summary.specs.StationRows.{station_in}
use Rattle.aprs_summary.specs.Stations.{ReportsStations}
use Rattle.aprs_summary.proofs.Stations.{stations_ascend, stations_of_book}
use Rattle.aprs_summary.proofs.lists.station.stations_of.Goals as goal

pub loop-call-init : goal.loop-call-init
loop-call-init g c =
    let it = c.into_iter-call-iterator.ensures.into_iter_gives ∙ c.iter-call-items.ensures.rest in
    ap (λ l. l ++ map (station_in c.args.indexes.now) c.into_iter-call-iterator.result)
    c.new-list.ensures.items
    ∙ ap (map (station_in c.args.indexes.now)) it

pub loop-call-preserved : goal.loop-call-preserved
loop-call-preserved g c =
    let f = station_in c.args.indexes.now in
    let ys = c.loop-call.list.items in
    let rest = rest_more deref_pair c.loop-call.call-iterator c.next.new.self c.next.result
    (c.in-Some.call, c.in-Some.transmissions) c.in-Some.is c.next.ensures.steps in
    let pushed = c.in_ok-push.ensures.items in
    ap (λ l. l ++ map f c.next.new.self) pushed
    ∙ append_assoc ys (c.station_of.result ∷ []) (map f c.next.new.self)
    ∙ ap (λ y. ys ++ y ∷ map f c.next.new.self) c.station_of.ensures
    ∙ ap (λ r. ys ++ map f r) (sym rest) ∙ c.loop-call.invariant

pub returns : goal.returns
returns g c = λ gap rows counted known.
    let f = station_in c.args.indexes.now in
    let entries = c.args.tallies.now.entries in
    let none = rest_all deref_pair c.loop-call.call-iterator c.next.new.self c.next.result
    c.in-None.is c.next.ensures.steps in
    subst (ReportsStations gap rows)
    (sym (sym (append-nil c.loop-call.list.items)
    ∙ ap (λ r. c.loop-call.list.items ++ map f r) (sym none) ∙ c.loop-call.invariant))
    (stations_of_book gap rows c.args.indexes.now entries counted known
    (stations_ascend entries c.iter-call-items.ensures.ordered))
