use Rattle.aprs_table.proofs.Common.{rules, subst, Sends, Sends-put, Sends-unput}
use Rattle.aprs_table.specs.History.{history_text}
use Rattle.aprs_table.proofs.OneLines.{lines_of_told}
use Rattle.aprs_table.proofs.history.write_history.Goals as goal

pub returns-in_err-put_history-clause-sends : goal.returns-in_err-put_history-clause-sends
returns-in_err-put_history-clause-sends g c =
    subst (λ w. Sends g.W.Write.contents c.from_residual.result c.args.w.now w
    (history_text c.args.rows.rows)) (search rules)
    (Sends-unput c.new-out.ensures.nothing _ c.from_residual.ensures.0 c.in_err-put_history.ensures)

pub returns-in_err-put_history-clause-lines : goal.returns-in_err-put_history-clause-lines
returns-in_err-put_history-clause-lines g c = lines_of_told _ c.gap-told.ensures.told

pub returns-clause-lines : goal.returns-clause-lines
returns-clause-lines g c = lines_of_told _ c.gap-told.ensures.told

pub returns-clause-sends : goal.returns-clause-sends
returns-clause-sends g c =
    subst (λ w. Sends g.W.Write.contents c.flush.result c.args.w.now w
    (history_text c.args.rows.rows)) (search rules)
    (Sends-put c.new-out.ensures.nothing c.in_ok-put_history.ensures c.flush.ensures.sent)
