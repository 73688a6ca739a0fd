use Rattle.aprs_rows.proofs.Common.{◌≡◌, ◌∙◌, ◌++◌, [], List, Row, ap, arith, sym, subst, take_all, rules, All-from_recursion, AreInOrder, SameMembers}
use Rattle.std.proofs.lemmas.List.{append-nil}
use Rattle.std.proofs.lemmas.List.Sums.{sum_by-append}
use Rattle.aprs_rows.specs.BookStore.{all_rows}
use Rattle.aprs_rows.specs.Merger.{all_ahead, AreRuns, HaveRows, IsRun}
use Rattle.aprs_rows.specs.Packed.{room_of, row_room}
use Rattle.aprs_rows.proofs.Cases.{at_err}
use Rattle.aprs_rows.proofs.InStore.{rows_more, some_in_first, some_of_all}
use Rattle.aprs_rows.proofs.store.book_store.merged.Goals as goal

pub put_list-requires : goal.put_list-requires
put_list-requires g c =
    subst IsRun (sym c.rows.ensures.value) (record {
      ordered = c.requires.chunk;
      each = c.rows.ensures.sound;
      told = c.rows.ensures.told;
    })

pub returns-in_err-put_list-clause-some : goal.returns-in_err-put_list-clause-some
returns-in_err-put_list-clause-some g c =
    at_err c.from_residual.result
    (some_in_first c.args.sorted.now c.args.chunk.now
    (λ e. c.in_err-put_list.ensures.some (c.rows.ensures.value ∙ e)))

pub loop-packed-init : goal.loop-packed-init
loop-packed-init g c =
    let none : c.new-fronts.result.items ≡ [] = search rules in
    let rows = c.in_ok-put_list.ensures.rows
    ∙ (λ i. all_ahead (none i) ++ c.rows.ensures.value i) in
    let room = ap (λ (rs : List Row). room_of rs) rows in
    record {
      rows = rows ∙ sym (append-nil c.args.chunk.now);
      runs = c.put_list.ensures.runs (subst AreRuns (sym none) tt);
      have = c.put_list.ensures.have (subst HaveRows (sym none) tt);
      room = omega (arith, room, c.room-room.ensures);
    }

pub put_list-requires-in-loop-packed : goal.put_list-requires-in-loop-packed
put_list-requires-in-loop-packed g c =
    subst IsRun (sym c.rows-in-loop-packed.ensures.value) (record {
      ordered = subst AreInOrder (sym c.packed-item.is)
          (All-from_recursion AreInOrder c.args.sorted.now c.requires.lists c.loop-packed.packed-index
          c.packed-item.result c.loop-packed-test.true);
      each = c.rows-in-loop-packed.ensures.sound;
      told = c.rows-in-loop-packed.ensures.told;
    })

pub loop-packed-preserved : goal.loop-packed-preserved
loop-packed-preserved g c =
    let before = all_ahead c.loop-packed.fronts.items in
    let rows = c.in_ok-put_list-2.ensures.rows
    ∙ ap (λ (rs : List Row). before ++ rs) c.rows-in-loop-packed.ensures.value in
    let room = ap (λ (rs : List Row). room_of rs) rows in
    let parts = sum_by-append row_room before c.packed-item.result in
    record {
      rows = rows
          ∙ ap (λ (rs : List Row). rs ++ c.packed-item.result) c.loop-packed.invariant.rows
          ∙ sym (rows_more c.args.sorted.now c.args.chunk.now c.loop-packed.packed-index
          c.packed-item.result c.packed-item.is c.loop-packed-test.true);
      runs = c.put_list-in-loop-packed.ensures.runs c.loop-packed.invariant.runs;
      have = c.put_list-in-loop-packed.ensures.have c.loop-packed.invariant.have;
      room = omega (
        arith,
        room,
        parts,
        c.loop-packed.invariant.room,
        c.saturating_add-room.ensures,
        c.room.ensures,
      );
    }

pub returns-in_err-put_list-2-clause-some : goal.returns-in_err-put_list-2-clause-some
returns-in_err-put_list-2-clause-some g c =
    at_err c.from_residual-in_err-put_list-2.result
    (some_of_all c.args.sorted.now c.args.chunk.now c.loop-packed.packed-index c.packed-item.result
    c.packed-item.is c.loop-packed-test.true
    (λ e. c.in_err-put_list-2.ensures.some (c.rows-in-loop-packed.ensures.value ∙ e)))

pub returns-in_err-merger-clause-some : goal.returns-in_err-merger-clause-some
returns-in_err-merger-clause-some g c =
    at_err c.from_residual-in_err-merger.result
    (λ e. c.in_err-merger.ensures.some (c.loop-packed.invariant.rows
    ∙ ap (λ (ls : List (List Row)). all_rows ls c.args.chunk.now)
    (take_all c.loop-packed.packed-index c.args.sorted.now c.loop-packed-test.false) ∙ e))

pub returns-clause-members : goal.returns-clause-members
returns-clause-members g c =
    subst (λ (rows : List Row). SameMembers (all_rows c.args.sorted.now c.args.chunk.now) rows)
    (sym (c.in_ok-merger.ensures.value ∙ c.loop-packed.invariant.rows
    ∙ ap (λ (ls : List (List Row)). all_rows ls c.args.chunk.now)
    (take_all c.loop-packed.packed-index c.args.sorted.now c.loop-packed-test.false)))
    (λ z. (λ h. h, λ h. h))

pub returns-clause-room : goal.returns-clause-room
returns-clause-room g c =
    let same = ap (λ (rows : List Row). room_of rows) c.in_ok-merger.ensures.value in
    omega (arith, same, c.loop-packed.invariant.room)
