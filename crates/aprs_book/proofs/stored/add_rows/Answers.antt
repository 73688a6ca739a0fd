use Rattle.aprs_book.proofs.Common.{◌∙◌, ◌++◌, ap, sym, subst, AreInOrder, AreSoundRows}
use Rattle.aprs_summary.proofs.Collected.{on_ok}
use Rattle.aprs_book.proofs.InStore.{first_sound, rest_sound, one_put, all_put, joined_by}
use Rattle.aprs_book.proofs.stored.add_rows.Goals as goal

pub loop-row-init : goal.loop-row-init
loop-row-init g c = record {
  put = λ t. c.new-packed.ensures t ++ c.into_iter-row-iterator.ensures.into_iter_gives t;
  sound = subst AreSoundRows (sym c.into_iter-row-iterator.ensures.into_iter_gives)
      c.requires.sound;
}

pub put_row-requires : goal.put_row-requires
put_row-requires g c =
    first_sound c.loop-row.row-iterator c.next.new.self c.in-Some.row.now c.in-Some.ensures.steps
    c.loop-row.invariant.sound

pub loop-row-preserved : goal.loop-row-preserved
loop-row-preserved g c = record {
  put = one_put c.loop-row.packed c.put_row.new.packed c.next.new.self c.loop-row.row-iterator
      _ c.in-Some.row.now c.in-Some.ensures.steps c.in_ok-put_row.ensures.put c.loop-row.invariant.put;
  sound = rest_sound c.loop-row.row-iterator c.next.new.self c.in-Some.row.now
      c.in-Some.ensures.steps c.loop-row.invariant.sound;
}

pub add-requires : goal.add-requires
add-requires g c =
    subst AreInOrder
    (sym (all_put c.loop-row.packed c.loop-row.row-iterator _ c.in-None.ensures.steps.0
    c.loop-row.invariant.put))
    c.requires.order

pub returns-clause-added : goal.returns-clause-added
returns-clause-added g c =
    on_ok c.add.result
    (λ h. h ∙ ap (joined_by c.args.store.now) (all_put c.loop-row.packed c.loop-row.row-iterator _
    c.in-None.ensures.steps.0 c.loop-row.invariant.put)) c.add.ensures.added
