use Rattle.std.proofs.Common.{◌∙◌}
use Rattle.aprs_rows.proofs.Cases.{at_err}
use Rattle.aprs_rows.proofs.Merger.{some_ahead}
use Rattle.aprs_rows.proofs.store.merger.Merger.new.Goals as goal

pub returns-in_err-tournament-clause-some : goal.returns-in_err-tournament-clause-some
returns-in_err-tournament-clause-some g c =
    at_err c.from_residual.result
    (some_ahead c.args.fronts.items c.requires.rows
    (λ e. c.in_err-tournament.ensures.some (c.as_slice.ensures.value ∙ e)))
