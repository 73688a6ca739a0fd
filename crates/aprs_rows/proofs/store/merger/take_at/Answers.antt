use Rattle.std.proofs.Common.{◌∙◌, get_or, sym}
use Rattle.std.proofs.lemmas.List.{length-set}
use Rattle.std.specs.Prelude.{set}
use Rattle.aprs_rows.specs.Merger.{first_in}
use Rattle.aprs_rows.proofs.Fronts.{front_at-get}
use Rattle.aprs_rows.proofs.Matches.{opened_again}
use Rattle.aprs_rows.proofs.Merger.{is_taken, others_stay}
use Rattle.aprs_rows.proofs.store.merger.take_at.Goals as goal

pub play_again-requires-clause-played : goal.play_again-requires-clause-played
play_again-requires-clause-played g c =
    let lists = c.args.fronts.now in
    let new = c.take-row.new.self in
    opened_again first_in lists c.args.tournament.now c.requires.played
    (set lists c.args.index new) c.args.index (length-set lists c.args.index new)
    (λ k unlike. others_stay lists c.args.index k new unlike)

pub returns-clause-none : goal.returns-clause-none
returns-clause-none g c =
    let lists = c.args.fronts.now in
    let d = c.index-fronts-index.result in
    is_taken c.take-row.result (get_or lists c.args.index d) c.take-row.new.self
    c.requires.first.row c.take-row.ensures.none
    (sym (front_at-get first_in lists c.args.index d c.requires.first.within) ∙ c.requires.first.is)
