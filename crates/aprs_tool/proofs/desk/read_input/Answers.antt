use Rattle.aprs_tool.proofs.Common.{[], ◌∙◌, refl, inl, inr, err_from_is_err_and, BookValue, Calls-then}
use Rattle.aprs_runs.specs.declared.fault.InputFault.TheVariants.{Log}
use Rattle.aprs_runs.proofs.Inputs.{book_input, of_got, of_log, of_mark, read_alone, refused_input, refused_log, short_empty, short_fault, short_is_log}
use Rattle.aprs_runs.proofs.Readers.{AsksInput-then}
use Rattle.aprs_tool.proofs.desk.read_input.Goals as goal

-- ---- a book file

pub returns-in_ok-read_book-in-Ok-clause-reads : goal.returns-in_ok-read_book-in-Ok-clause-reads
returns-in_ok-read_book-in-Ok-clause-reads g c =
    of_mark _ _ _ c.args.limit c.as_slice.ensures.value c.eq.ensures
    c.in-Ok.ensures.bytes _ c.if-eq.true
    (book_input c.args.gap _ _ c.args.limit c.in_ok-read_book-in-Ok.field-0
    c.in_ok-read_book-in-Ok.ensures.reads)

pub returns-in_err-read_book-in-Ok-clause-reads : goal.returns-in_err-read_book-in-Ok-clause-reads
returns-in_err-read_book-in-Ok-clause-reads g c =
    let p = err_from_is_err_and c.from_residual.result c.from_residual.ensures.1 in
    rw (p.1, p.2) (of_mark _ _ _ c.args.limit c.as_slice.ensures.value c.eq.ensures
    c.in-Ok.ensures.bytes _ c.if-eq.true
    (refused_input _ _ c.args.limit c.in_err-read_book-in-Ok.field-0.0
    c.in_err-read_book-in-Ok.ensures.reads))

pub returns-in_ok-read_book-in-Ok-clause-calls : goal.returns-in_ok-read_book-in-Ok-clause-calls
returns-in_ok-read_book-in-Ok-clause-calls g c =
    inl (Calls-then c.in-Ok.ensures.calls c.in_ok-read_book-in-Ok.ensures.calls)

pub returns-in_err-read_book-in-Ok-clause-calls : goal.returns-in_err-read_book-in-Ok-clause-calls
returns-in_err-read_book-in-Ok-clause-calls g c =
    let p = err_from_is_err_and c.from_residual.result c.from_residual.ensures.1 in
    rw (p.1, p.2) (AsksInput-then _ _ _ c.in-Ok.ensures.calls _
    (inl c.in_err-read_book-in-Ok.ensures.calls))

-- ---- a log

pub returns-in_err-read_log-in-Ok-2-clause-reads : goal.returns-in_err-read_log-in-Ok-2-clause-reads
returns-in_err-read_log-in-Ok-2-clause-reads g c =
    let p = err_from_is_err_and c.from_residual-in_err-read_log-in-Ok-2.result
    c.from_residual-in_err-read_log-in-Ok-2.ensures.1 in
    rw (p.1, p.2) (of_log _ _ _ c.args.limit c.as_slice.ensures.value c.eq.ensures
    c.in-Ok.ensures.bytes _ _ c.if-eq.false c.in-Ok.ensures.whole.0
    (refused_log c.in_err-read_log-in-Ok-2.field-0.0 c.new-store.result c.read_log.new.store)
    (rw c.as_slice-in-Ok-2.ensures.value at c.in_err-read_log-in-Ok-2.ensures.reads))

pub returns-in_err-rows-in-Ok-2-clause-reads : goal.returns-in_err-rows-in-Ok-2-clause-reads
returns-in_err-rows-in-Ok-2-clause-reads g c =
    let p = err_from_is_err_and c.from_residual-in_err-rows-in-Ok-2.result
    c.from_residual-in_err-rows-in-Ok-2.ensures.1 in
    rw (p.1, p.2) (of_log _ _ _ c.args.limit c.as_slice.ensures.value c.eq.ensures
    c.in-Ok.ensures.bytes _ _ c.if-eq.false c.in-Ok.ensures.whole.0 (λ t e is h. is)
    (rw c.as_slice-in-Ok-2.ensures.value at c.in_ok-read_log-in-Ok-2.ensures.reads))

pub returns-in_err-of_rows-in-Ok-2-clause-reads : goal.returns-in_err-of_rows-in-Ok-2-clause-reads
returns-in_err-of_rows-in-Ok-2-clause-reads g c =
    let p = err_from_is_err_and c.from_residual-in_err-of_rows-in-Ok-2.result
    c.from_residual-in_err-of_rows-in-Ok-2.ensures.1 in
    rw (p.1, p.2) (of_log _ _ _ c.args.limit c.as_slice.ensures.value c.eq.ensures
    c.in-Ok.ensures.bytes _ _ c.if-eq.false c.in-Ok.ensures.whole.0 (λ t e is h. is)
    (rw c.as_slice-in-Ok-2.ensures.value at c.in_ok-read_log-in-Ok-2.ensures.reads))

pub returns-in_ok-of_rows-in-Ok-2-clause-reads : goal.returns-in_ok-of_rows-in-Ok-2-clause-reads
returns-in_ok-of_rows-in-Ok-2-clause-reads g c =
    of_log _ _ _ c.args.limit c.as_slice.ensures.value c.eq.ensures
    c.in-Ok.ensures.bytes _ _ c.if-eq.false c.in-Ok.ensures.whole.0
    (λ t e is. read_alone c.args.gap c.in_ok-of_rows-in-Ok-2.field-0 c.new-store.result
    c.read_log.new.store t e is c.new-store.ensures
    (c.in_ok-of_rows-in-Ok-2.ensures ∙ c.in_ok-rows-in-Ok-2.ensures.book))
    (rw c.as_slice-in-Ok-2.ensures.value at c.in_ok-read_log-in-Ok-2.ensures.reads)

pub returns-in_err-read_log-in-Ok-2-clause-calls : goal.returns-in_err-read_log-in-Ok-2-clause-calls
returns-in_err-read_log-in-Ok-2-clause-calls g c =
    let p = err_from_is_err_and c.from_residual-in_err-read_log-in-Ok-2.result
    c.from_residual-in_err-read_log-in-Ok-2.ensures.1 in
    rw (p.1, p.2) (AsksInput-then _ _ _ c.in-Ok.ensures.calls _
    (inl c.in_err-read_log-in-Ok-2.ensures.calls))

pub returns-in_err-rows-in-Ok-2-clause-calls : goal.returns-in_err-rows-in-Ok-2-clause-calls
returns-in_err-rows-in-Ok-2-clause-calls g c =
    let p = err_from_is_err_and c.from_residual-in_err-rows-in-Ok-2.result
    c.from_residual-in_err-rows-in-Ok-2.ensures.1 in
    rw (p.1, p.2)
    (inr (refl, Calls-then c.in-Ok.ensures.calls c.in_ok-read_log-in-Ok-2.ensures.calls))

pub returns-in_err-of_rows-in-Ok-2-clause-calls : goal.returns-in_err-of_rows-in-Ok-2-clause-calls
returns-in_err-of_rows-in-Ok-2-clause-calls g c =
    let p = err_from_is_err_and c.from_residual-in_err-of_rows-in-Ok-2.result
    c.from_residual-in_err-of_rows-in-Ok-2.ensures.1 in
    rw (p.1, p.2)
    (inr (refl, Calls-then c.in-Ok.ensures.calls c.in_ok-read_log-in-Ok-2.ensures.calls))

pub returns-in_ok-of_rows-in-Ok-2-clause-calls : goal.returns-in_ok-of_rows-in-Ok-2-clause-calls
returns-in_ok-of_rows-in-Ok-2-clause-calls g c =
    inl (Calls-then c.in-Ok.ensures.calls c.in_ok-read_log-in-Ok-2.ensures.calls)

pub returns-in_err-read_short-in-Err-clause-reads : goal.returns-in_err-read_short-in-Err-clause-reads
returns-in_err-read_short-in-Err-clause-reads g c =
    let p = err_from_is_err_and c.from_residual-in_err-read_short-in-Err.result
    c.from_residual-in_err-read_short-in-Err.ensures.1 in
    let short = c.in-Err.short in
    let fault = c.in_err-read_short-in-Err.field-0.0 in
    let none : BookValue = record { gap = c.args.gap; rows = [] } in
    rw (p.1, p.2) (of_got _ _ c.args.limit _ _ _ c.in-Err.ensures.end
    (refused_log (Log fault) none none short.bytes.items short.ending
    (short_is_log short.bytes.items c.in-Err.ensures.short)
    (short_fault short.bytes.items short.ending fault none
    c.in_err-read_short-in-Err.ensures.answers)))

pub returns-in_ok-read_short-in-Err-clause-reads : goal.returns-in_ok-read_short-in-Err-clause-reads
returns-in_ok-read_short-in-Err-clause-reads g c =
    let short = c.in-Err.short in
    let made = c.with_gap in
    let none : BookValue = record { gap = c.args.gap; rows = [] } in
    of_got _ _ c.args.limit _ _ _ c.in-Err.ensures.end
    (read_alone c.args.gap made.result none none short.bytes.items short.ending
    (short_is_log short.bytes.items c.in-Err.ensures.short) refl
    (λ t. record { gap = made.ensures.gap t; rows = made.ensures.rows t })
    (short_empty short.bytes.items short.ending none
    c.in_ok-read_short-in-Err.ensures.answers))
