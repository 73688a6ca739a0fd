use Rattle.aprs_rows.proofs.Common.{◌∙◌, List, Row, ap, arith, sym, subst}
use Rattle.aprs_transmissions.specs.Sound.{AreSoundRows}
use Rattle.aprs_rows.specs.Merger.{all_ahead}
use Rattle.aprs_rows.proofs.Merger.{if_none, none_ahead, sound_ahead, still, taken_alone}
use Rattle.aprs_rows.proofs.store.merger.Merger.take.Goals as goal

pub returns-in_err-index-clause-none : goal.returns-in_err-index-clause-none
returns-in_err-index-clause-none g c =
    let none = sym c.self.view_is ∙ ap all_ahead (sym c.as_slice.ensures.value)
    ∙ none_ahead c.as_slice.result.now c.in_err-index.ensures.none in
    if_none _ c.from_residual.result (none, none)

pub returns-in_err-index-clause-sound : goal.returns-in_err-index-clause-sound
returns-in_err-index-clause-sound g c =
    subst (λ (rows : List Row). AreSoundRows rows) c.self.view_is
    (sound_ahead c.self.inside.fronts.items c.self.invariant.0)

pub invariant_of-self : goal.invariant_of-self
invariant_of-self g c =
    still c.self.inside.fronts.items c.as_slice.result.now c.as_mut_slice.result.now
    c.take_at.new.fronts c.in_ok-index.index c.self.inside.fronts.len c.take_at.new.tournament
    c.take_at.result c.as_slice.ensures.value c.as_mut_slice.ensures.value
    (let len = c.as_mut_slice.ensures.len in omega (arith, len)) c.self.invariant.0
    c.in_ok-index.ensures.some c.take_at.ensures.none c.take_at.ensures.some
    c.take_at.ensures.played

pub returns-clause-some : goal.returns-clause-some
returns-clause-some g c =
    taken_alone c.self.inside.fronts.items c.as_slice.result.now c.as_mut_slice.result.now
    c.take_at.new.fronts c.in_ok-index.index c.self.inside.fronts.len c.take_at.new.tournament
    c.take_at.result c.as_slice.ensures.value c.as_mut_slice.ensures.value
    (let len = c.as_mut_slice.ensures.len in omega (arith, len)) c.self.invariant.0
    c.in_ok-index.ensures.some c.take_at.ensures.none c.take_at.ensures.some
    c.take_at.ensures.played c.args.self.now c.self.view_is

pub returns-clause-sound : goal.returns-clause-sound
returns-clause-sound g c =
    subst (λ (rows : List Row). AreSoundRows rows) c.self.view_is
    (sound_ahead c.self.inside.fronts.items c.self.invariant.0)
