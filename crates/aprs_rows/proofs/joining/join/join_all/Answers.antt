use Rattle.aprs_rows.proofs.Common.{◌≡◌, ◌∙◌, ◌+◌, ◌∷◌, [], ◌++◌, take, sym, subst, ap, inl, inr, arith, List, take_all, take_more, ◌∈◌, FoldsTo, in_either, in_place}
use Rattle.aprs_transmissions.proofs.Folds.{fold_same, fold_more}
use Rattle.aprs_rows.proofs.joining.join.join_all.Goals as goal

pub loop-item-preserved : goal.loop-item-preserved
loop-item-preserved g c =
    let j = g.J.Join in
    let items = c.args.items.now in
    let i = c.loop-item.item-index in
    let item = c.item-item.result in
    let more : take (i + 1) items ≡ take i items ++ item ∷ [] =
    take_more items i item (omega arith)
    ∙ ap (λ t. take i items ++ t ∷ []) (sym c.item-item.is) in (
      subst (λ (t : List _). FoldsTo j.joined c.args.start.now t c.in_ok-all-2.all) (sym more)
          (fold_more j.valid j.alike j.joined g.met.J.Join.laws c.args.start.now
          (take i items) c.loop-item.all item
          c.in_ok-all-2.all c.loop-item.invariant.0 c.in_ok-all-2.ensures.joined),
      c.loop-item.invariant.1,
      g.met.J.Join.laws.transitive c.args.start.now c.loop-item.all c.in_ok-all-2.all
          c.loop-item.invariant.2
          (g.met.J.Join.laws.both c.loop-item.all item c.in_ok-all-2.all
          c.in_ok-all-2.ensures.joined).0,
      λ x h. elim (in_either x (take i items) (item ∷ []) (subst (λ (t : List _). x ∈ t) more h)) [
        | inl k ↦ c.loop-item.invariant.3 x k
        | inr k ↦ elim k [
          | inl e ↦ subst j.valid e c.in_ok-all-2.ensures.valid_other
          | inr n ↦ absurd n
        ]
      ],
    )

pub returns-clause-any_order : goal.returns-clause-any_order
returns-clause-any_order g c = λ others end same folds.
    let j = g.J.Join in
    let items = c.args.items.now in
    let whole : take c.loop-item.item-index items ≡ items = take_all _ items (omega arith) in
    fold_same j.valid j.alike j.joined g.met.J.Join.laws c.args.start.now items others
    c.loop-item.all end
    c.loop-item.invariant.1
    (λ x h. c.loop-item.invariant.3 x (subst (λ (t : List _). x ∈ t) (sym whole) h))
    same
    (subst (λ (t : List _). FoldsTo j.joined c.args.start.now t c.loop-item.all) whole
    c.loop-item.invariant.0)
    folds

pub join-requires : goal.join-requires
join-requires g c = g.met.J.Join.laws.reflexive c.args.start.now

pub join-requires-in-loop-item : goal.join-requires-in-loop-item
join-requires-in-loop-item g c =
    let laws = g.met.J.Join.laws in
    let start = c.args.start.now in
    let items = c.args.items.now in
    let item = c.item-item.result in
    let i = c.loop-item.item-index in
    laws.transitive c.loop-item.all start item
    (laws.symmetric start c.loop-item.all c.loop-item.invariant.2)
    (c.requires item (subst (λ x. x ∈ items) (sym c.item-item.is)
    (in_place items i item (omega arith))))
