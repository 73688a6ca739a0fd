use Rattle.aprs_fold.proofs.Common.{◌≡◌, ◌∙◌, None, Some, Row, sym, subst, millis_of, IsSoundRow}
use Rattle.aprs_fold.specs.Known.{TakesNew}
use Rattle.aprs_fold.specs.LastRow.{last_row, last_row_after, row_taken_at, IsOfStream}
use Rattle.aprs_fold.proofs.Fronts.{row_none, row_some}
use Rattle.aprs_fold.proofs.Puttings.{both_ok}
use Rattle.aprs_fold.proofs.taking_new.take_front_new.Goals as goal

pub returns-in-Some-clause-takes : goal.returns-in-Some-clause-takes
returns-in-Some-clause-takes g c =
    let at = row_some c.args.streams.now c.args.index c.index-streams-index.result
    c.requires.first.within c.index-streams-index.is c.in-Some.next c.in-Some.ensures.some in
    both_ok c.take_new.result _ _ _ c.take_new.ensures.lends c.take_new.ensures.takes
    (λ lends wrote takes x is.
    let same : c.in-Some.next ≡ x = (let e : Some c.in-Some.next ≡ Some x = sym at ∙ is in cc) in
    subst (λ (z : Row). IsSoundRow z × IsOfStream c.args.index c.take_new.new.last.stream
    × TakesNew g.W.Write.contents c.args.range.now wrote (millis_of c.args.gap)
    (row_taken_at c.args.streams.now 0) c.args.out.now c.take_new.new.out
    (last_row c.args.last.now c.args.streams.now) z (last_row_after c.take_new.new.last z)) same
    (c.in-Some.ensures.own.0, lends, takes))

pub returns-in-None-clause-takes : goal.returns-in-None-clause-takes
returns-in-None-clause-takes g c = λ x is.
    let none = row_none c.args.streams.now c.args.index c.index-streams-index.result
    c.requires.first.within c.index-streams-index.is c.in-None.ensures.none in
    absurd (let e : None ≡ Some x = sym none ∙ is in cc)
