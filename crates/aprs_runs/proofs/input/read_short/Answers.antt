use Rattle.aprs_runs.proofs.Common.{◌∙◌, Some, ap, sym, end_with, short_tail_cause, fault_at, log_answers}
use Rattle.aprs_runs.proofs.ShortLogs.{short_tail, short_unended}
use Rattle.aprs_runs.proofs.input.read_short.Goals as goal

pub returns-in-Read-clause-answers : goal.returns-in-Read-clause-answers
returns-in-Read-clause-answers c =
    let text = c.args.short.now.bytes.items in
    short_tail text c.args.short.now.ending c.requires.few c.requires.one
    ∙ ap (λ e. end_with (fault_at 1 (short_tail_cause e text))) c.in-Read.is
    ∙ ap (λ f. end_with (Some f)) (sym c.first_line_fault.ensures)

pub returns-in-TooLong-clause-answers : goal.returns-in-TooLong-clause-answers
returns-in-TooLong-clause-answers c =
    let text = c.args.short.now.bytes.items in
    short_tail text c.args.short.now.ending c.requires.few c.requires.one
    ∙ ap (λ e. end_with (fault_at 1 (short_tail_cause e text))) c.in-TooLong.is
    ∙ ap (λ f. end_with (Some f)) (sym c.first_line_fault-in-TooLong.ensures)

pub returns-in-End-2-clause-answers : goal.returns-in-End-2-clause-answers
returns-in-End-2-clause-answers c =
    let text = c.args.short.now.bytes.items in
    ap (λ e. log_answers text e) c.in-End.is
    ∙ short_unended text c.requires.few c.requires.one (sym c.is_empty.ensures
    ∙ c.if-is_empty.false)
    ∙ ap (λ f. end_with (Some f)) (sym c.first_line_fault-in-End-2.ensures)
