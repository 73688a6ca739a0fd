use Rattle.aprs_log.proofs.Common.{◌+◌, sym, ◌∙◌, take_rest}
use Rattle.aprs_log.proofs.FirstFields.{EndsMoment-space, TakesMoment-at, TakesNoMoment-nowhere, TakesNoMoment-unread, none_matches}
use Rattle.aprs_log.proofs.line.fields.take_moment.Goals as goal

pub returns-in_err-len : goal.returns-in_err-len
returns-in_err-len c =
    none_matches c.from_residual.result _ _ c.from_residual.ensures
    (TakesNoMoment-nowhere c.args.line.now c.in_err-len.ensures)

pub returns-in_err-moment : goal.returns-in_err-moment
returns-in_err-moment c =
    none_matches c.from_residual-in_err-moment.result _ _ c.from_residual-in_err-moment.ensures
    (TakesNoMoment-unread c.args.line.now c.in_ok-len.len c.in_ok-len.ensures
    (sym c.in_err-moment.was ∙ c.parse.ensures))

pub returns : goal.returns
returns c =
    TakesMoment-at c.args.line.now c.in_ok-len.len c.in_ok-moment.moment _
    (EndsMoment-space c.args.line.now c.in_ok-len.len c.in_ok-len.ensures)
    (sym c.parse.ensures ∙ c.in_ok-moment.was) (take_rest c.args.line.now (c.in_ok-len.len + 1))
