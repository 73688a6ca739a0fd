use Rattle.aprs_rows.proofs.Common.{◌∙◌, ℕ, List, length, arith, sym, subst}
use Rattle.aprs_rows.specs.Matches.{IsPlayed}
use Rattle.aprs_rows.proofs.Fronts.{first_is, first_none, least_all}
use Rattle.aprs_rows.proofs.Matches.{some_of, winner_first}
use Rattle.aprs_rows.proofs.store.tournament.Tournament.first.Goals as goal

pub offset_bounds-streams-first : goal.offset_bounds-streams-first
offset_bounds-streams-first g c =
    let s = c.args.streams.now in
    let played = subst (λ (l : List ℕ). IsPlayed g.T.HasFront.front s l) (sym c.self.view_is ∙ sym c.as_slice.ensures.value) c.requires in
    let some = some_of (length s) (sym c.is_empty.ensures ∙ c.if-is_empty.false) in
    let first = (winner_first g.T.HasFront.front s c.as_slice.result.now played c.winner_of-first.result
    c.winner_of-first.ensures some).0 in
    omega (arith, first)

pub bounds-streams-first : goal.bounds-streams-first
bounds-streams-first g c =
    let s = c.args.streams.now in
    let played = subst (λ (l : List ℕ). IsPlayed g.T.HasFront.front s l) (sym c.self.view_is ∙ sym c.as_slice.ensures.value) c.requires in
    let some = some_of (length s) (sym c.is_empty.ensures ∙ c.if-is_empty.false) in
    (winner_first g.T.HasFront.front s c.as_slice.result.now played c.winner_of-first.result
    c.winner_of-first.ensures some).0

pub returns-then-has_row-clause-some : goal.returns-then-has_row-clause-some
returns-then-has_row-clause-some g c =
    let s = c.args.streams.now in
    let played = subst (λ (l : List ℕ). IsPlayed g.T.HasFront.front s l) (sym c.self.view_is ∙ sym c.as_slice.ensures.value) c.requires in
    let some = some_of (length s) (sym c.is_empty.ensures ∙ c.if-is_empty.false) in
    let first = winner_first g.T.HasFront.front s c.as_slice.result.now played c.winner_of-first.result
    c.winner_of-first.ensures some in
    first_is g.T.HasFront.front s c.winner_of-first.result c.index-streams-first.result first.0
    c.index-streams-first.is (least_all g.T.HasFront.front s c.winner_of-first.result first.1)
    (sym c.has_row.ensures ∙ c.if-has_row.true)

pub returns-else-has_row-clause-none : goal.returns-else-has_row-clause-none
returns-else-has_row-clause-none g c =
    let s = c.args.streams.now in
    let played = subst (λ (l : List ℕ). IsPlayed g.T.HasFront.front s l) (sym c.self.view_is ∙ sym c.as_slice.ensures.value) c.requires in
    let some = some_of (length s) (sym c.is_empty.ensures ∙ c.if-is_empty.false) in
    let first = winner_first g.T.HasFront.front s c.as_slice.result.now played c.winner_of-first.result
    c.winner_of-first.ensures some in
    first_none g.T.HasFront.front s c.winner_of-first.result c.index-streams-first.result first.0
    c.index-streams-first.is (least_all g.T.HasFront.front s c.winner_of-first.result first.1)
    (sym c.has_row.ensures ∙ c.if-has_row.false)
