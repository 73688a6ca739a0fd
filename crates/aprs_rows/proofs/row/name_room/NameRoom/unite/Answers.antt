use Rattle.aprs_rows.proofs.Common.{◌∙◌, ◌++◌, List, ℕ, Bor, arith, ap, length, map}
use Rattle.std.specs.Borrow.{MutBor}
use Rattle.aprs_rows.specs.NameRoom.{GatheredNames, names_size}
use Rattle.aprs_rows.specs.Sorted.{ascending_text}
use Rattle.aprs_rows.proofs.NameRooms.{text_fits, unites}
use Rattle.aprs_rows.proofs.row.name_room.NameRoom.unite.Goals as goal

pub put_ascending-requires : goal.put_ascending-requires
put_ascending-requires g c =
    let fits = text_fits c.self.inside.names.items c.sort_unstable.new.self.items
    c.as_slice.result.now c.sort_unstable.ensures.permutation c.as_slice.ensures.value in
    omega (
      arith,
      fits,
      c.clear.ensures.len,
      c.clear.ensures.capacity,
      c.self.invariant.within,
      c.self.invariant.text,
    )

pub split_at_mut-own-requires : goal.split_at_mut-own-requires
split_at_mut-own-requires g c =
    let fits = text_fits c.self.inside.names.items c.sort_unstable.new.self.items
    c.as_slice.result.now c.sort_unstable.ensures.permutation c.as_slice.ensures.value in
    let text = ap length (c.put_ascending.ensures.text
    ∙ ap (λ bs. bs ++ ascending_text (map (λ n. n.now) c.as_slice.result.now))
    c.clear.ensures.items) in
    let room = ap (λ (r : MutBor (List ℕ)). length r.now) c.take.ensures.value in
    omega (
      arith,
      fits,
      text,
      room,
      c.len.ensures,
      c.put_ascending.new.text.ok.0,
      c.self.invariant.within,
    )

pub returns-clause-text : goal.returns-clause-text
returns-clause-text g c =
    (unites c.self.inside.names.items c.sort_unstable.new.self.items c.as_slice.result.now
    c.args.self.now.names c.copy_from_slice.new.self c.sort_unstable.ensures.permutation
    c.sort_unstable.ensures.sorted c.as_slice.ensures.value
    (ap (λ (r : GatheredNames). r.names) c.self.view_is) c.requires c.self.invariant.each
    (c.copy_from_slice.ensures.after ∙ c.as_slice-2.ensures.value ∙ c.put_ascending.ensures.text
    ∙ ap (λ bs. bs ++ ascending_text (map (λ n. n.now) c.as_slice.result.now))
    c.clear.ensures.items)).is

pub returns-clause-each : goal.returns-clause-each
returns-clause-each g c =
    (unites c.self.inside.names.items c.sort_unstable.new.self.items c.as_slice.result.now
    c.args.self.now.names c.copy_from_slice.new.self c.sort_unstable.ensures.permutation
    c.sort_unstable.ensures.sorted c.as_slice.ensures.value
    (ap (λ (r : GatheredNames). r.names) c.self.view_is) c.requires c.self.invariant.each
    (c.copy_from_slice.ensures.after ∙ c.as_slice-2.ensures.value ∙ c.put_ascending.ensures.text
    ∙ ap (λ bs. bs ++ ascending_text (map (λ n. n.now) c.as_slice.result.now))
    c.clear.ensures.items)).each

pub returns-clause-left : goal.returns-clause-left
returns-clause-left g c =
    let long = ap length (c.copy_from_slice.ensures.after ∙ c.as_slice-2.ensures.value) in
    let none = ap (λ (ns : List (Bor (List ℕ))). names_size (map (λ n. n.now) ns))
    c.clear-2.ensures.items in
    let names = ap (λ (r : GatheredNames). names_size r.names) c.self.view_is in
    let left = ap (λ (r : GatheredNames). r.left) c.self.view_is in
    let room = ap (λ (r : MutBor (List ℕ)). length r.now) c.take.ensures.value in
    let fits = text_fits c.self.inside.names.items c.sort_unstable.new.self.items
    c.as_slice.result.now c.sort_unstable.ensures.permutation c.as_slice.ensures.value in
    let text = ap length (c.put_ascending.ensures.text
    ∙ ap (λ bs. bs ++ ascending_text (map (λ n. n.now) c.as_slice.result.now))
    c.clear.ensures.items) in
    omega (
      arith,
      fits,
      text,
      long,
      none,
      names,
      left,
      room,
      c.len.ensures,
      c.put_ascending.new.text.ok.0,
      c.split_at_mut-own.ensures.back_len,
      c.self.invariant.within,
    )
