use Rattle.aprs_arguments.proofs.Common.{◌∙◌, ℕ, List, map, ap, sym, inl, Bor, App, Row, err_from_is_err_and, fault_of, matches_of}
use Rattle.aprs_arguments.specs.Arguments.{FailsGathering, FailsTable, chosen_gap, chosen_message_gap, given_inputs, paths_of, table_and_paths, table_app, under_message_gap}
use Rattle.aprs_arguments.specs.declared.jobs.Table.{Table}
use Rattle.aprs_arguments.specs.declared.jobs.JobFault.{JobFault}
use Rattle.aprs_arguments.specs.declared.jobs.JobFault.TheVariants as fault
use Rattle.aprs_arguments.proofs.table.table_job.Goals as goal

-- a table fails as any program that gathers inputs does
fails_so : (arguments : List (List ℕ)) (f : JobFault) → FailsGathering table_app arguments f
    → FailsTable arguments f
fails_so arguments fault.Memory h = tt
fails_so arguments fault.Options h = inl h
fails_so arguments (fault.Clap error) h = h

pub returns-in_err-matches-clause-asked : goal.returns-in_err-matches-clause-asked
returns-in_err-matches-clause-asked c =
    let arguments = map (λ (w : Bor (List ℕ)). w.now) c.args.arguments.now in
    let p = err_from_is_err_and c.from_residual-in_err-matches.result
    c.from_residual-in_err-matches.ensures.1 in
    rw (p.1, p.2) (fails_so arguments _ (rw c.in_ok-command.ensures at c.in_err-matches.ensures.refused))

pub returns-in_default-clause-judged : goal.returns-in_default-clause-judged
returns-in_default-clause-judged c =
    let arguments = map (λ (w : Bor (List ℕ)). w.now) c.args.arguments.now in
    ap (λ (a : App). fault_of a arguments) (sym c.in_ok-command.ensures)
    ∙ c.in_ok-matches.ensures.judged

pub returns-clause-asked : goal.returns-clause-asked
returns-clause-asked c =
    let arguments = map (λ (w : Bor (List ℕ)). w.now) c.args.arguments.now in
    let are = c.in_ok-matches.ensures.matches
    ∙ ap (λ (a : App). matches_of a arguments) c.in_ok-command.ensures in
    let split = c.in_ok-named.ensures
    ∙ ap (λ (rows : List Row). table_and_paths (given_inputs rows)) are in
    record {
      gap = ap (λ (a : App). chosen_gap (matches_of a arguments)) (sym c.in_ok-command.ensures)
          ∙ c.in_ok-matches.ensures.gap;
      message_gap = c.in-Some.message_gap;
      is_message_gap = ap chosen_message_gap (sym are) ∙ sym c.read_message_gap.ensures
          ∙ c.in-Some.is;
      table_and_inputs =
          ap (λ (t : Table). (t, paths_of c.in_ok-named.inputs.items)) c.with_message_gap-table.ensures
          ∙ ap (under_message_gap c.in-Some.message_gap) split;
    }

pub returns-clause-judged : goal.returns-clause-judged
returns-clause-judged c =
    let arguments = map (λ (w : Bor (List ℕ)). w.now) c.args.arguments.now in
    ap (λ (a : App). fault_of a arguments) (sym c.in_ok-command.ensures)
    ∙ c.in_ok-matches.ensures.judged
