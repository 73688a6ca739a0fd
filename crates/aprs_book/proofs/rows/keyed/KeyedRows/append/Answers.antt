use Rattle.aprs_book.proofs.Common.{[], ◌∷◌, ◌++◌, ◌∙◌, ap, insert_entry, Received, head_cmp}
use Rattle.aprs_book.proofs.EntryEnds.{err_stays, count_set, count_insert, goes_after, after_ok, after_err, after_kept, after_new}
use Rattle.aprs_book.proofs.rows.keyed.KeyedRows.append.Goals as goal

pub invariant_of-self : goal.invariant_of-self
invariant_of-self g c =
    let x = c.args.row in
    let es = c.self.inside.map.entries in
    let b = goes_after (λ v. v.items) x c.frame.result.now c.of_frame-head.result es
    c.of_frame-head.ensures (c.frame.ensures ∙ ap (λ (t : Received). t.frame) c.greatest.ensures)
    c.in-Some.ensures.ordered c.self.invariant.0 _ c.self.view_is c.requires in (
      after_kept (λ v. v.items) x _ es _ _ _ c.push_one-pushed.result b c.in-Some.ensures.value
          (c.get_mut.follows.holds c.push_one-pushed.new.rows).0 c.push_one-pushed.ensures.added
          c.push_one-pushed.ensures.unchanged,
      count_set (λ v. v.items) c.of_frame-head.result es _ c.in-Some.rows.now
          c.push_one-pushed.new.rows
          c.self.inside.count c.push_one-pushed.new.count c.in-Some.ensures.value
          (c.get_mut.follows.holds c.push_one-pushed.new.rows).0 c.self.invariant.1
          c.push_one-pushed.ensures.counted,
    )

pub returns-in-Some-clause-added : goal.returns-in-Some-clause-added
returns-in-Some-clause-added g c =
    let x = c.args.row in
    let es = c.self.inside.map.entries in
    let b = goes_after (λ v. v.items) x c.frame.result.now c.of_frame-head.result es
    c.of_frame-head.ensures (c.frame.ensures ∙ ap (λ (t : Received). t.frame) c.greatest.ensures)
    c.in-Some.ensures.ordered c.self.invariant.0 _ c.self.view_is c.requires in
    rw (← c.self.view_is) (after_ok (λ v. v.items) x _ es _ _ _ c.push_one-pushed.result b
    c.in-Some.ensures.value (c.get_mut.follows.holds c.push_one-pushed.new.rows).0
    c.push_one-pushed.ensures.added)

pub returns-in-Some-clause-unchanged : goal.returns-in-Some-clause-unchanged
returns-in-Some-clause-unchanged g c =
    rw (← c.self.view_is) (after_err (λ v. v.items) c.args.row _ c.self.inside.map.entries _ _ _
    c.push_one-pushed.result c.in-Some.ensures.value
    (c.get_mut.follows.holds c.push_one-pushed.new.rows).0 c.push_one-pushed.ensures.unchanged)

pub invariant_of-self-in_err-insert : goal.invariant_of-self-in_err-insert
invariant_of-self-in_err-insert g c =
    let same =
    c.in_err-insert.ensures.err
    ∙ ap (λ m. m.entries) c.get_mut.follows.holds-at-none in
    rw same c.self.invariant

pub invariant_of-self-2 : goal.invariant_of-self-2
invariant_of-self-2 g c =
    let x = c.args.row in
    let es = c.self.inside.map.entries in
    let b = goes_after (λ v. v.items) x c.frame.result.now c.of_frame-head.result es
    c.of_frame-head.ensures (c.frame.ensures ∙ ap (λ (t : Received). t.frame) c.greatest.ensures)
    c.in_default.ensures.ordered c.self.invariant.0 _ c.self.view_is c.requires in
    let put = c.in_ok-insert.ensures.entries in
    let same = ap (λ m. m.entries) c.get_mut.follows.holds-at-none in
    let entries = put
    ∙ ap (λ t. insert_entry head_cmp t c.of_frame-head.result c.push_one.new.rows) same in (
      (after_new (λ v. v.items) x _ es _ c.push_one.new.rows b c.in_default.ensures.value
          (c.in_ok-push_one.ensures.added ∙ ap (λ t. t ++ x ∷ []) c.new-rows.ensures.items)
          entries).1,
      count_insert (λ v. v.items) c.of_frame-head.result es c.insert.new.self.entries
          c.push_one.new.rows c.new-rows.result.items c.self.inside.count c.push_one.new.count
          c.in_default.ensures.value c.new-rows.ensures.items entries c.self.invariant.1
          c.in_ok-push_one.ensures.counted,
    )

pub returns-clause-added : goal.returns-clause-added
returns-clause-added g c =
    let x = c.args.row in
    let es = c.self.inside.map.entries in
    let b = goes_after (λ v. v.items) x c.frame.result.now c.of_frame-head.result es
    c.of_frame-head.ensures (c.frame.ensures ∙ ap (λ (t : Received). t.frame) c.greatest.ensures)
    c.in_default.ensures.ordered c.self.invariant.0 _ c.self.view_is c.requires in
    let put = c.in_ok-insert.ensures.entries in
    let same = ap (λ m. m.entries) c.get_mut.follows.holds-at-none in
    let entries = put
    ∙ ap (λ t. insert_entry head_cmp t c.of_frame-head.result c.push_one.new.rows) same in
    rw (← c.self.view_is) (after_new (λ v. v.items) x _ es _ c.push_one.new.rows b
    c.in_default.ensures.value
    (c.in_ok-push_one.ensures.added ∙ ap (λ t. t ++ x ∷ []) c.new-rows.ensures.items)
    entries).0

pub returns-in_err-push_one-clause-unchanged : goal.returns-in_err-push_one-clause-unchanged
returns-in_err-push_one-clause-unchanged g c =
    err_stays (λ v. v.items) c.from_residual.result
    c.self.inside.map.entries _ _ (ap (λ m. m.entries) c.get_mut.follows.holds-at-none)
    c.self.view_is

pub returns-in_err-insert-clause-unchanged : goal.returns-in_err-insert-clause-unchanged
returns-in_err-insert-clause-unchanged g c =
    let same = c.in_err-insert.ensures.err ∙ ap (λ m. m.entries) c.get_mut.follows.holds-at-none in
    err_stays (λ v. v.items) c.from_residual-in_err-insert.result
    c.self.inside.map.entries _ _ same c.self.view_is
