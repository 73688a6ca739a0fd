use Rattle.aprs_fold.proofs.Common.{◌≡◌, ◌∙◌, None, Some, Row, sym, subst, millis_of, IfErr-weaker, IsSoundRow}
use Rattle.aprs_fold.specs.Taking.{FailsTaking, Takes}
use Rattle.aprs_fold.specs.LastRow.{last_row, last_row_after, IsOfStream}
use Rattle.aprs_fold.proofs.Fronts.{row_none, row_some}
use Rattle.aprs_fold.proofs.Puttings.{both_ok}
use Rattle.aprs_fold.proofs.taking.take_front.Goals as goal

pub returns-in-Some-clause-takes : goal.returns-in-Some-clause-takes
returns-in-Some-clause-takes g c =
    let at = row_some c.args.streams.now c.args.index c.index-streams-index.result
    c.requires.first.within c.index-streams-index.is c.in-Some.next c.in-Some.ensures.some in
    both_ok c.take.result _ _ _ c.take.ensures.lends c.take.ensures.takes (λ lends wrote takes x is.
    let same : c.in-Some.next ≡ x = (let e : Some c.in-Some.next ≡ Some x = sym at ∙ is in cc) in
    subst (λ (z : Row). IsSoundRow z × IsOfStream c.args.index c.take.new.last.stream
    × Takes g.W.Write.contents c.args.range.now wrote (millis_of c.args.gap) c.args.out.now
    c.take.new.out (last_row c.args.last.now c.args.streams.now) z
    (last_row_after c.take.new.last z)) same
    (c.in-Some.ensures.own.0, lends, takes))

pub returns-in-Some-clause-fails : goal.returns-in-Some-clause-fails
returns-in-Some-clause-fails g c =
    let at = row_some c.args.streams.now c.args.index c.index-streams-index.result
    c.requires.first.within c.index-streams-index.is c.in-Some.next c.in-Some.ensures.some in
    IfErr-weaker c.take.result _ _ (λ fault fails x is.
    let same : c.in-Some.next ≡ x = (let e : Some c.in-Some.next ≡ Some x = sym at ∙ is in cc) in
    subst (λ (z : Row). IsSoundRow z × FailsTaking g.W.Write.contents c.args.range.now (millis_of c.args.gap) fault
    c.args.out.now c.take.new.out (last_row c.args.last.now c.args.streams.now) z) same
    (c.in-Some.ensures.own.0, fails)) c.take.ensures.fails

pub returns-in-None-clause-takes : goal.returns-in-None-clause-takes
returns-in-None-clause-takes g c = λ x is.
    let none = row_none c.args.streams.now c.args.index c.index-streams-index.result
    c.requires.first.within c.index-streams-index.is c.in-None.ensures.none in
    absurd (let e : None ≡ Some x = sym none ∙ is in cc)
