use Rattle.aprs_runs.proofs.Common.{◌∙◌, refl, ap, err_from_is_err_and}
use Rattle.aprs_runs.specs.Gathered.{with_rows}
use Rattle.aprs_runs.specs.declared.fault.InputFault.TheVariants.{Log}
use Rattle.aprs_runs.proofs.Inputs.{gives_log, none_read, of_got, of_log, of_mark, refused_input, refused_log, rows_input, short_empty, short_fault, short_is_log}
use Rattle.aprs_rows.proofs.SoundOrder.{in_order}
use Rattle.aprs_runs.proofs.input.read_input_rows.Goals as goal

-- ---- an allocation failed before

pub returns-in_err-add_rows-clause-reads : goal.returns-in_err-add_rows-clause-reads
returns-in_err-add_rows-clause-reads g c =
    let p = err_from_is_err_and c.from_residual.result c.from_residual.ensures.1 in
    rw (p.1, p.2) (none_read _ c.args.limit _ refl)

-- ---- a book file

pub invariant_of-gathered-then-eq : goal.invariant_of-gathered-then-eq
invariant_of-gathered-then-eq g c = let sound = c.in_ok-own-in-Ok.ensures.sound in
    in_order _ c.read_rows.new.rows refl sound

pub returns-in_ok-own-in-Ok-clause-reads : goal.returns-in_ok-own-in-Ok-clause-reads
returns-in_ok-own-in-Ok-clause-reads g c =
    let rows = c.read_rows.new.rows in
    let was = c.in_ok-add_rows.ensures.added
    ∙ ap (with_rows c.gathered.inside.store) c.replace-file.ensures.value ∙ c.gathered.view_is in
    of_mark _ _ _ c.args.limit c.as_slice.ensures.value c.eq.ensures
    c.in-Ok.ensures.bytes _ c.if-eq.true
    (rows_input c.args.gathered.now.gap c.in_ok-own-in-Ok.own c.args.gathered.now
    (with_rows c.add_rows.new.store rows) rows _ _ c.args.limit (λ t. with_rows (was t) rows)
    c.in_ok-own-in-Ok.ensures.reads)

pub returns-in_err-own-in-Ok-clause-reads : goal.returns-in_err-own-in-Ok-clause-reads
returns-in_err-own-in-Ok-clause-reads g c =
    let p = err_from_is_err_and c.from_residual-in_err-own-in-Ok.result
    c.from_residual-in_err-own-in-Ok.ensures.1 in
    rw (p.1, p.2) (of_mark _ _ _ c.args.limit c.as_slice.ensures.value c.eq.ensures
    c.in-Ok.ensures.bytes _ c.if-eq.true
    (refused_input _ _ c.args.limit c.in_err-own-in-Ok.field-0.0 c.in_err-own-in-Ok.ensures.reads))

-- ---- a log

pub returns-in_err-read_log-in-Ok-2-clause-reads : goal.returns-in_err-read_log-in-Ok-2-clause-reads
returns-in_err-read_log-in-Ok-2-clause-reads g c =
    let p = err_from_is_err_and c.from_residual-in_err-read_log-in-Ok-2.result
    c.from_residual-in_err-read_log-in-Ok-2.ensures.1 in
    rw (p.1, p.2) (of_log _ _ _ c.args.limit c.as_slice.ensures.value c.eq.ensures
    c.in-Ok.ensures.bytes _ _ c.if-eq.false c.in-Ok.ensures.whole.0
    (refused_log c.in_err-read_log-in-Ok-2.field-0.0 c.add_rows.new.store c.read_log.new.store)
    (rw c.as_slice-in-Ok-2.ensures.value at c.in_err-read_log-in-Ok-2.ensures.reads))

pub returns-in_ok-read_log-in-Ok-2-clause-reads : goal.returns-in_ok-read_log-in-Ok-2-clause-reads
returns-in_ok-read_log-in-Ok-2-clause-reads g c =
    let now = c.args.gathered.now in
    let store = c.read_log.new.store in
    of_log _ _ _ c.args.limit c.as_slice.ensures.value c.eq.ensures
    c.in-Ok.ensures.bytes _ _ c.if-eq.false c.in-Ok.ensures.whole.0
    (λ t e. gives_log now.gap c.gap-gap.result now (with_rows store c.replace-file.new.dest)
    c.add_rows.new.store store t e (c.gap-gap.ensures.value ∙ ap (λ b. b.gap) c.gathered.view_is)
    (c.in_ok-add_rows.ensures.added
    ∙ ap (with_rows c.gathered.inside.store) c.replace-file.ensures.value ∙ c.gathered.view_is)
    (ap (with_rows store) (c.replace-file.ensures.after ∙ c.new.ensures)))
    (rw c.as_slice-in-Ok-2.ensures.value at c.in_ok-read_log-in-Ok-2.ensures.reads)

pub returns-in_err-read_short-in-Err-clause-reads : goal.returns-in_err-read_short-in-Err-clause-reads
returns-in_err-read_short-in-Err-clause-reads g c =
    let p = err_from_is_err_and c.from_residual-in_err-read_short-in-Err.result
    c.from_residual-in_err-read_short-in-Err.ensures.1 in
    let short = c.in-Err.short in
    let fault = c.in_err-read_short-in-Err.field-0.0 in
    let now = c.args.gathered.now in
    rw (p.1, p.2) (of_got _ _ c.args.limit _ _ _ c.in-Err.ensures.end
    (refused_log (Log fault) now now short.bytes.items short.ending
    (short_is_log short.bytes.items c.in-Err.ensures.short)
    (short_fault short.bytes.items short.ending fault now
    c.in_err-read_short-in-Err.ensures.answers)))

pub returns-in_ok-read_short-in-Err-clause-reads : goal.returns-in_ok-read_short-in-Err-clause-reads
returns-in_ok-read_short-in-Err-clause-reads g c =
    let short = c.in-Err.short in
    let now = c.args.gathered.now in
    let store = c.add_rows.new.store in
    of_got _ _ c.args.limit _ _ _ c.in-Err.ensures.end
    (gives_log now.gap c.gap-gap.result now (with_rows store c.replace-file.new.dest) store store
    short.bytes.items short.ending (c.gap-gap.ensures.value ∙ ap (λ b. b.gap) c.gathered.view_is)
    (c.in_ok-add_rows.ensures.added
    ∙ ap (with_rows c.gathered.inside.store) c.replace-file.ensures.value ∙ c.gathered.view_is)
    (ap (with_rows store) (c.replace-file.ensures.after ∙ c.new.ensures))
    (short_is_log short.bytes.items c.in-Err.ensures.short)
    (short_empty short.bytes.items short.ending store
    c.in_ok-read_short-in-Err.ensures.answers))
