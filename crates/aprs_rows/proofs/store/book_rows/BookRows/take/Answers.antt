use Rattle.aprs_rows.proofs.Common.{◌∙◌, ◌++◌, ◌∷◌, List, Row, BookValue, arith, ap, inr, sym, subst, some_millis, millis_of, ◌∈◌}
use Rattle.std.proofs.lemmas.List.Sums.{sum_by-cons}
use Rattle.aprs_transmissions.specs.Together.{book_together}
use Rattle.aprs_rows.specs.Merger.{with_names}
use Rattle.aprs_rows.specs.Packed.{room_of, row_room}
use Rattle.aprs_rows.proofs.Opens.{ends, fits_next, joins, not_none, stands, starts}
use Rattle.aprs_rows.proofs.store.book_rows.BookRows.take.Goals as goal

pub invariant_of-self-in_default : goal.invariant_of-self-in_default
invariant_of-self-in_default g c =
    let coming = c.self.invariant in
    let row = c.in_ok-row.row in
    let same = c.in_default.ensures.none.0 in
    let room = ap (λ (rows : List Row). room_of rows) same in
    let taken = c.in_ok-row.ensures.some in
    record {
      range = coming.range;
      each = λ x h. coming.each x ((taken.members x).1
          (inr (subst (λ (rows : List Row). x ∈ rows) same h)));
      none = coming.none;
      fits = omega (arith, room, taken.room, sum_by-cons row_room row c.take.new.self, coming.fits);
    }

pub returns-in_default-clause-some : goal.returns-in_default-clause-some
returns-in_default-clause-some g c =
    let coming = c.self.invariant in
    let gap = millis_of c.self.inside.gap in
    let none = c.in_default.ensures.none in
    stands gap (some_millis c.self.inside.gap coming.range) c.self.inside.merger c.in_ok-row.row
    c.take.new.self c.first-first.result c.args.self.now.rows coming.each c.in_ok-row.ensures.some
    c.first-first.ensures (ap (λ (b : BookValue). b.rows) c.self.view_is) none.1
    ∙ (λ i. c.in_ok-row.row ∷ book_together gap (sym none.0 i))

pub loop-row-init : goal.loop-row-init
loop-row-init g c =
    let coming = c.self.invariant in
    let gap = millis_of c.self.inside.gap in
    let pos = some_millis c.self.inside.gap coming.range in
    let row = c.in_ok-row.row in
    let own = c.gather.new.self.names in
    let names = c.gather.ensures.names ∙ (λ i. coming.none i ++ c.receivers.ensures.names i) in
    let fits = fits_next c.self.inside.merger row c.take.new.self c.receivers.result.now
    c.self.inside.names.left c.in_ok-row.ensures.some c.receivers.ensures.text coming.fits in
    let fits_near = fits_next c.take.new.self c.in-Some.near c.take_near.new.self
    c.receivers-2.result.now c.gather.new.self.left c.in-Some.ensures.some.0
    c.receivers-2.ensures.text (omega (arith, fits, c.gather.ensures.left)) in
    record {
      range = coming.range;
      is_open = joins gap pos c.first-first.result row own c.take.new.self c.args.self.now.rows
          (starts gap pos c.self.inside.merger row c.take.new.self own c.first-first.result
          c.args.self.now.rows coming.each c.in_ok-row.ensures.some names c.first-first.ensures
          (ap (λ (b : BookValue). b.rows) c.self.view_is))
          c.in-Some.near c.take_near.new.self c.grown-first.result.0 c.grown-first.result.1
          c.gather-2.new.self.names c.in-Some.ensures.some.0 c.in-Some.ensures.some.1
          c.grown-first.ensures.first c.grown-first.ensures.greatest
          (c.gather-2.ensures.names ∙ ap (λ ns. own ++ ns) c.receivers-2.ensures.names);
      some = not_none c.gather-2.new.self.names own c.receivers-2.result.now
          c.gather-2.ensures.names;
      fits = omega (arith, fits_near, c.gather-2.ensures.left);
    }

pub loop-row-preserved : goal.loop-row-preserved
loop-row-preserved g c =
    let l = c.loop-row in
    let names = l.self-inside.names.names in
    let fits = fits_next l.self-inside.merger c.in-Some-take_near.row c.take_near-in-loop-row.new.self
    c.receivers-in-Some-take_near.result.now l.self-inside.names.left c.in-Some-take_near.ensures.some.0
    c.receivers-in-Some-take_near.ensures.text l.invariant.fits in
    record {
      range = l.invariant.range;
      is_open = joins (millis_of l.self-inside.gap) (some_millis l.self-inside.gap l.invariant.range)
          l.first l.greatest names l.self-inside.merger c.args.self.now.rows l.invariant.is_open
          c.in-Some-take_near.row c.take_near-in-loop-row.new.self c.grown-start.result.0
          c.grown-start.result.1 c.gather-in-Some-take_near.new.self.names c.in-Some-take_near.ensures.some.0
          c.in-Some-take_near.ensures.some.1 c.grown-start.ensures.first c.grown-start.ensures.greatest
          (c.gather-in-Some-take_near.ensures.names
          ∙ ap (λ ns. names ++ ns) c.receivers-in-Some-take_near.ensures.names);
      some = not_none c.gather-in-Some-take_near.new.self.names names c.receivers-in-Some-take_near.result.now
          c.gather-in-Some-take_near.ensures.names;
      fits = omega (arith, fits, c.gather-in-Some-take_near.ensures.left);
    }

pub invariant_of-self-2 : goal.invariant_of-self-2
invariant_of-self-2 g c =
    let l = c.loop-row in
    let same = c.in_default-take_near.ensures.none.0 in
    let room = ap (λ (rows : List Row). room_of rows) same in
    record {
      range = l.invariant.range;
      each = λ x h. l.invariant.is_open.each x (inr (subst (λ (rows : List Row). x ∈ rows) same h));
      none = c.unite.ensures.names;
      fits = omega (arith, room, l.invariant.fits, c.unite.ensures.left);
    }

pub returns-clause-some : goal.returns-clause-some
returns-clause-some g c =
    let l = c.loop-row in
    let gap = millis_of l.self-inside.gap in
    let none = c.in_default-take_near.ensures.none in
    ends gap (some_millis l.self-inside.gap l.invariant.range) l.first l.greatest
    l.self-inside.names.names l.self-inside.merger c.args.self.now.rows l.invariant.is_open none.1
    ∙ (λ i. sym (c.with_first_and_names.ensures
    ∙ (λ j. with_names l.first l.greatest (c.unite.ensures.text j))) i
    ∷ book_together gap (sym none.0 i))
