use Rattle.aprs_rows.proofs.Common.{◌∙◌, ◌++◌, List, Row, sym, ap, subst, rules, AreInOrder, SameMembers, ◌∈◌}
use Rattle.std.proofs.lemmas.List.{append-nil}
use Rattle.aprs_rows.proofs.Orders.{ordered_by_sort, same_members}
use Rattle.aprs_rows.proofs.Rows.{if_ok}
use Rattle.aprs_rows.proofs.store.packed.PackedRows.in_order.Goals as goal

pub repack-requires : goal.repack-requires
repack-requires g c =
    let all = sym (append-nil c.loop-row.rows.items)
    ∙ ap (λ rs. c.loop-row.rows.items ++ rs) (sym c.in-None.ensures.steps.0)
    ∙ c.loop-row.invariant in
    let there = λ (x : Row) (h : x ∈ c.as_slice.result.now).
    subst (λ (rs : List Row). x ∈ rs) all
    ((same_members c.loop-row.rows.items c.sort_unstable_by.new.self.items
    c.sort_unstable_by.ensures.permutation x).1
    (subst (λ (rs : List Row). x ∈ rs) c.as_slice.ensures.value h)) in
    record {
      sound = λ x h. c.rows-row-items.ensures.sound x (there x h);
      short = λ x h. c.rows-row-items.ensures.short x (there x h);
    }

pub returns-clause-same : goal.returns-clause-same
returns-clause-same g c =
    let all = sym (append-nil c.loop-row.rows.items)
    ∙ ap (λ rs. c.loop-row.rows.items ++ rs) (sym c.in-None.ensures.steps.0)
    ∙ c.loop-row.invariant in
    if_ok c.repack.result
    (λ packed e. subst (λ (rs : List Row). SameMembers c.args.self.now rs)
    (sym (e ∙ c.as_slice.ensures.value))
    (subst (λ (rs : List Row). SameMembers rs c.sort_unstable_by.new.self.items) all
    (same_members c.loop-row.rows.items c.sort_unstable_by.new.self.items
    c.sort_unstable_by.ensures.permutation)))
    c.repack.ensures

pub returns-clause-ordered : goal.returns-clause-ordered
returns-clause-ordered g c =
    if_ok c.repack.result
    (λ packed e. subst (λ (rs : List Row). AreInOrder rs) (sym (e ∙ c.as_slice.ensures.value))
    (ordered_by_sort c.sort_unstable_by.new.self.items c.sort_unstable_by.ensures.sorted
    (λ a r q k. search rules)))
    c.repack.ensures
