use Rattle.aprs_rows.proofs.Common.{◌≡◌, ◌∙◌, ◌<◌, true, List, None, Some, Row, length, get_or, ap, arith, inl, inr, refl, sym, subst}
use Rattle.aprs_transmissions.specs.Gap.{millis_of}
use Rattle.aprs_rows.specs.Fronts.{ComesFirst, front_at}
use Rattle.aprs_rows.specs.Merger.{all_ahead, first_in, IsByTest}
use Rattle.aprs_rows.proofs.Fronts.{row_is}
use Rattle.aprs_rows.proofs.Merger.{first_out, if_none, none_ahead, same_some, still, taken}
use Rattle.aprs_rows.proofs.store.merger.Merger.take_near.Goals as goal

pub returns-in_err-index-clause-none : goal.returns-in_err-index-clause-none
returns-in_err-index-clause-none g c =
    if_none _ c.from_residual.result (
      refl,
      inl (sym c.self.view_is ∙ ap all_ahead (sym c.as_slice.ensures.value)
          ∙ none_ahead c.as_slice.result.now c.in_err-index.ensures.none),
    )

pub returns-in_err-row-clause-none : goal.returns-in_err-row-clause-none
returns-in_err-row-clause-none g c =
    let f = c.in_ok-index.ensures.some in
    let at = row_is first_in c.as_slice-2.result.now c.in_ok-index.index
    c.index-as_slice-index.result
    (subst (λ (ls : List (List Row)). c.in_ok-index.index < length ls)
    (c.as_slice.ensures.value ∙ sym c.as_slice-2.ensures.value) f.within)
    c.index-as_slice-index.is in
    let is = subst (λ (ls : List (List Row)). front_at first_in ls c.in_ok-index.index ≡ Some f.row)
    (c.as_slice.ensures.value ∙ sym c.as_slice-2.ensures.value) f.is in
    absurd (let e : None ≡ Some f.row = sym c.in_err-row.ensures.none ∙ sym at ∙ is in cc)

pub returns-then-not-are_near-clause-none : goal.returns-then-not-are_near-clause-none
returns-then-not-are_near-clause-none g c =
    let t = first_out c.self.inside.fronts.items c.in_ok-index.index c.index-as_slice-index.result
    c.in_ok-row.row.now c.args.self.now c.self.invariant.0
    (subst (λ (ls : List (List Row)). ComesFirst first_in ls c.in_ok-index.index)
    c.as_slice.ensures.value c.in_ok-index.ensures.some)
    (subst (λ (ls : List (List Row)). c.index-as_slice-index.result
    ≡ get_or ls c.in_ok-index.index c.index-as_slice-index.result) c.as_slice-2.ensures.value
    c.index-as_slice-index.is)
    c.in_ok-row.ensures.some c.self.view_is in (
      refl,
      inr (
        c.in_ok-row.row.now,
        t.0,
        t.1,
        λ names. sym c.if-not-are_near.true ∙ c.are_near.ensures names,
      ),
    )

pub invariant_of-self : goal.invariant_of-self
invariant_of-self g c =
    still c.self.inside.fronts.items c.as_slice.result.now c.as_mut_slice.result.now
    c.take_at.new.fronts c.in_ok-index.index c.self.inside.fronts.len c.take_at.new.tournament
    c.take_at.result c.as_slice.ensures.value c.as_mut_slice.ensures.value
    (let len = c.as_mut_slice.ensures.len in omega (arith, len)) c.self.invariant.0
    c.in_ok-index.ensures.some c.take_at.ensures.none c.take_at.ensures.some
    c.take_at.ensures.played

pub returns-clause-some : goal.returns-clause-some
returns-clause-some g c =
    let lists = c.self.inside.fronts.items in
    let Q : Row → Type 0 = λ x. IsByTest true (millis_of c.args.gap) c.args.first c.args.latest.now x in
    taken c.self.inside.fronts.items c.as_slice.result.now c.as_mut_slice.result.now
    c.take_at.new.fronts c.in_ok-index.index c.self.inside.fronts.len c.take_at.new.tournament
    c.take_at.result c.as_slice.ensures.value c.as_mut_slice.ensures.value
    (let len = c.as_mut_slice.ensures.len in omega (arith, len)) c.self.invariant.0
    c.in_ok-index.ensures.some c.take_at.ensures.none c.take_at.ensures.some
    c.take_at.ensures.played c.args.self.now c.self.view_is Q
    (λ y at. subst Q
    (same_some c.in_ok-row.row.now y (sym c.in_ok-row.ensures.some
    ∙ sym (row_is first_in lists c.in_ok-index.index c.index-as_slice-index.result
    (subst (λ (ls : List (List Row)). c.in_ok-index.index < length ls) c.as_slice.ensures.value
    c.in_ok-index.ensures.some.within)
    (subst (λ (ls : List (List Row)). c.index-as_slice-index.result
    ≡ get_or ls c.in_ok-index.index c.index-as_slice-index.result) c.as_slice-2.ensures.value
    c.index-as_slice-index.is)) ∙ at))
    (λ names. sym c.if-not-are_near.false ∙ c.are_near.ensures names))
