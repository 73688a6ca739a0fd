use Rattle.aprs_tool.proofs.Common.{inl, err_from_is_err_and, got_so}
use Rattle.aprs_tool.proofs.Merged.{merged_in, not_merged_in}
use Rattle.aprs_runs.proofs.Readers.{AsksInput-ends, AsksInput-err, asks_merge}
use Rattle.aprs_tool.proofs.desk.Desk.take_input.Goals as goal

pub returns-clause-takes : goal.returns-clause-takes
returns-clause-takes g c =
    let book = c.args.self.now.book in
    got_so _ _ c.args.self.now.limit (λ input. input) _ _
    (λ t e h. merged_in book.gap t e c.in_ok-input.input h book.rows _ c.in_ok-self.ensures.one
    c.in_ok-self.ensures.merges) (rw c.gap.ensures at c.in_ok-input.ensures.reads)

pub returns-in_err-self-clause-takes : goal.returns-in_err-self-clause-takes
returns-in_err-self-clause-takes g c =
    let book = c.args.self.now.book in
    let p = err_from_is_err_and c.from_residual-in_err-self.result
    c.from_residual-in_err-self.ensures.1 in
    rw (p.1, p.2) (got_so _ _ c.args.self.now.limit (λ input. input) _ _
    (λ t e h. not_merged_in book.gap t e c.in_ok-input.input h c.in_err-self.field-0.0 book.rows
    book.rows c.in_err-self.ensures.refused) (rw c.gap.ensures at c.in_ok-input.ensures.reads))

pub returns-in_err-self-clause-calls : goal.returns-in_err-self-clause-calls
returns-in_err-self-clause-calls g c =
    let p = err_from_is_err_and c.from_residual-in_err-self.result
    c.from_residual-in_err-self.ensures.1 in
    rw (p.1, p.2) (asks_merge c.in_err-self.field-0.0
    (AsksInput-ends _ c.in_ok-input.ensures.calls))

pub returns-in_err-input-clause-calls : goal.returns-in_err-input-clause-calls
returns-in_err-input-clause-calls g c =
    let p = err_from_is_err_and c.from_residual.result c.from_residual.ensures.1 in
    rw (p.1, p.2) (AsksInput-err _ c.in_err-input.ensures.calls)

pub returns-clause-calls : goal.returns-clause-calls
returns-clause-calls g c = inl (AsksInput-ends _ c.in_ok-input.ensures.calls)
