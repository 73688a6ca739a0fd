use Rattle.aprs_lists.proofs.Common.{◌++◌, rules, subst, Sends, Sends-put, Sends-unput}
use Rattle.aprs_lists.proofs.table.write_table.Goals as goal

pub returns-in_err-put_table : goal.returns-in_err-put_table
returns-in_err-put_table g c =
    let text = c.args.columns.now ++ g.L.Lines.lines c.args.lines in
    subst (λ w. Sends g.W.Write.contents c.from_residual.result c.args.w.now w text) (search rules)
    (Sends-unput c.new-out.ensures.nothing _ c.from_residual.ensures.0 c.in_err-put_table.ensures)

pub returns : goal.returns
returns g c =
    let text = c.args.columns.now ++ g.L.Lines.lines c.args.lines in
    subst (λ w. Sends g.W.Write.contents c.flush.result c.args.w.now w text) (search rules)
    (Sends-put c.new-out.ensures.nothing c.in_ok-put_table.ensures c.flush.ensures.sent)
