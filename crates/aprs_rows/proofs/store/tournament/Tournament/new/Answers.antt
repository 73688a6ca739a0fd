use Rattle.std.proofs.Common.{◌≡◌, ◌∙◌, ◌++◌, ℕ, List, length, get_or, drop, take, refl, ap, arith, rules, subst, sym}
use Rattle.std.proofs.Math.Seq.{take-append_seam}
use Rattle.aprs_rows.specs.Matches.{IsPlayed}
use Rattle.aprs_rows.proofs.Matches.{zeros_within}
use Rattle.aprs_rows.proofs.store.tournament.Tournament.new.Goals as goal

pub play_all-requires-clause-within : goal.play_all-requires-clause-within
play_all-requires-clause-within g c =
    let resized = c.in_ok-resize.ensures.by_index in
    let none = c.new-winners.ensures.len in
    let each : length c.as_mut_slice.result.now ≡ length c.args.streams.now = search rules in
    zeros_within c.as_mut_slice.result.now (length c.args.streams.now) each
    (λ k lt. ap (λ (l : List ℕ). get_or l k 0) c.as_mut_slice.ensures.value
    ∙ resized.1 k 0 refl (omega (arith, none)) lt)

pub returns-clause-played : goal.returns-clause-played
returns-clause-played g c =
    let own = c.play_all.new.winners in
    let rest = drop (length own) c.resize.new.self.items in
    let each = c.play_all.ensures.each in
    let size = c.in_ok-resize.ensures.len in
    let same : c.resize.new.self.len ≡ length own = omega (arith, each, size) in
    let whole : take c.resize.new.self.len (own ++ rest) ≡ own =
    ap (λ n. take n (own ++ rest)) same ∙ take-append_seam own rest in
    subst (λ (l : List ℕ). IsPlayed g.T.HasFront.front c.args.streams.now l) (sym whole) c.play_all.ensures
