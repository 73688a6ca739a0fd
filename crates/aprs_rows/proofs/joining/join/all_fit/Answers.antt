use Rattle.aprs_rows.proofs.Common.{◌≡◌, ◌∙◌, ◌+◌, List, [], ◌∷◌, ◌++◌, take, refl, sym, ap, inl, inr, subst, arith, take_all, take_more, ◌∈◌, AreAllAlike, in_either, in_place}
use Rattle.aprs_rows.proofs.joining.join.all_fit.Goals as goal

pub loop-other-preserved : goal.loop-other-preserved
loop-other-preserved g c =
    let alike = g.J.Join.alike in
    let items = c.args.items.now in
    let i = c.loop-other.other-index in
    let item = c.other-item.result in
    let more : take (i + 1) items ≡ take i items ++ item ∷ [] =
    take_more items i item (omega arith) ∙ ap (λ t. take i items ++ t ∷ []) (sym c.other-item.is) in
    λ x h. elim (in_either x (take i items) (item ∷ []) (subst (λ (t : List _). x ∈ t) more h)) [
      | inl k ↦ c.loop-other.invariant x k
      | inr k ↦ elim k [
        | inl e ↦ subst (alike c.args.start.now) e (c.fits.ensures.0 c.if-not-fits.false)
        | inr n ↦ absurd n
      ]
    ]

pub returns-then-not-fits : goal.returns-then-not-fits
returns-then-not-fits g c = (
  λ t. absurd (cc),
  λ all.
      let items = c.args.items.now in
      let item = c.other-item.result in
      let i = c.loop-other.other-index in
      let t =
      c.fits.ensures.1 (all item (subst (λ x. x ∈ items) (sym c.other-item.is)
      (in_place items i item (omega arith)))) in
      let u = c.if-not-fits.true in cc,
)

pub returns : goal.returns
returns g c = (
  λ _. subst (λ (t : List _). AreAllAlike g.J.Join.alike c.args.start.now t)
      (take_all c.loop-other.other-index c.args.items.now (omega arith)) c.loop-other.invariant,
  λ _. refl,
)
