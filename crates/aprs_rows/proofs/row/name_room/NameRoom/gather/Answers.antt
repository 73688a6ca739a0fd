use Rattle.aprs_rows.proofs.Common.{◌++◌, arith, ap, sym, subst, length, map, length-map, vec_capacity}
use Rattle.aprs_rows.specs.NameRoom.{GatheredNames}
use Rattle.aprs_rows.specs.Names.{names_in}
use Rattle.aprs_rows.proofs.NameRooms.{Gathers, gathers, one_more}
use Rattle.aprs_rows.proofs.row.name_room.NameRoom.gather.Goals as goal

pub loop-name-init : goal.loop-name-init
loop-name-init g c =
    let own = map (λ n. n.now) c.self.inside.names.items in
    let names = ap (λ (r : GatheredNames). r.names) c.self.view_is in
    let left = ap (λ (r : GatheredNames). r.left) c.self.view_is in
    let count = vec_capacity c.self.inside.names in
    let size = vec_capacity c.self.inside.text in
    let room = length c.self.inside.room.now in
    let k = subst (λ ns. Gathers ns c.args.text.now count size room c.args.self.now.left) names
    (gathers own c.args.text.now count size room c.args.self.now.left c.self.invariant (sym left)
    c.requires.each c.requires.room) in
    record {
      names = ap (λ ns. ns ++ names_in c.args.text.now) names;
      room = k.has_room;
      left = k.left_is;
    }

pub push_reserved-requires : goal.push_reserved-requires
push_reserved-requires g c =
    let items = c.loop-name.self-inside.names.items in
    let more = one_more (c.args.self.now.names ++ names_in c.args.text.now)
    (map (λ n. n.now) items) c.loop-name.rest.now (vec_capacity c.loop-name.self-inside.names)
    (vec_capacity c.loop-name.self-inside.text) (length c.loop-name.self-inside.room.now)
    c.loop-name.invariant.room c.loop-name.invariant.names in
    omega (arith, more, length-map items (λ n. n.now), c.loop-name.self-inside.names.ok.0)

pub push_reserved-requires-2 : goal.push_reserved-requires-2
push_reserved-requires-2 g c =
    let items = c.loop-name.self-inside.names.items in
    let more = one_more (c.args.self.now.names ++ names_in c.args.text.now)
    (map (λ n. n.now) items) c.loop-name.rest.now (vec_capacity c.loop-name.self-inside.names)
    (vec_capacity c.loop-name.self-inside.text) (length c.loop-name.self-inside.room.now)
    c.loop-name.invariant.room c.loop-name.invariant.names in
    omega (arith, more, length-map items (λ n. n.now), c.loop-name.self-inside.names.ok.0)
