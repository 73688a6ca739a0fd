use Rattle.aprs_arguments.proofs.Common.{◌≡◌, ◌∙◌, ℕ, List, map, ap, sym, subst, inl, inr, Bor, App, Row, err_from_is_err_and, fault_of, kind_of, matches_of}
use Rattle.std.specs.Prelude.{◌⊎◌, [], Err, IfErr, IfOk, Ok, Result, Some}
use Rattle.clap.specs.declared.error.Error.{Error}
use Rattle.clap.specs.declared.error.kind.ErrorKind.TheVariants.{ValueValidation}
use Rattle.aprs_arguments.specs.Arguments.{FailsGathering, RefusesSo, chosen_gap}
use Rattle.aprs_arguments.specs.Fold.{FailsFold, fold_app, AnswersFold, HasBadSource, IsFoldJobOf, JudgesFold, RefusesFold}
use Rattle.aprs_arguments.specs.declared.fold.FoldJob.{FoldJob}
use Rattle.aprs_arguments.specs.declared.jobs.JobFault.{JobFault}
use Rattle.aprs_arguments.specs.declared.jobs.JobFault.TheVariants as fault
use Rattle.aprs_arguments.proofs.fold.fold_job.Goals as goal

-- a fold fails as any program that gathers inputs does
fails_so : (arguments : List (List ℕ)) (f : JobFault) → FailsGathering fold_app arguments f
    → FailsFold arguments f
fails_so arguments fault.Memory h = tt
fails_so arguments fault.Options h = h
fails_so arguments (fault.Clap error) h = inl h

refused_so : (arguments : List (List ℕ)) (f : JobFault) → RefusesSo fold_app arguments f
    → RefusesFold arguments f
refused_so arguments fault.Memory h = tt
refused_so arguments fault.Options h = h
refused_so arguments (fault.Clap error) h = inl h

pub returns-in_err-matches-clause-asked : goal.returns-in_err-matches-clause-asked
returns-in_err-matches-clause-asked c =
    let arguments = map (λ (w : Bor (List ℕ)). w.now) c.args.arguments.now in
    let p = err_from_is_err_and c.from_residual-in_err-matches.result
    c.from_residual-in_err-matches.ensures.1 in
    rw (p.1, p.2) (fails_so arguments _ (rw c.in_ok-command.ensures at c.in_err-matches.ensures.refused))

pub returns-in_err-matches-clause-judged : goal.returns-in_err-matches-clause-judged
returns-in_err-matches-clause-judged c =
    let arguments = map (λ (w : Bor (List ℕ)). w.now) c.args.arguments.now in
    let p = err_from_is_err_and c.from_residual-in_err-matches.result
    c.from_residual-in_err-matches.ensures.1 in
    rw (p.1, p.2) (refused_so arguments _ (rw c.in_ok-command.ensures at c.in_err-matches.ensures.judged))

-- what is read of the matches of the command, where they have this gap
module _ (arguments : List (List ℕ)) (rows : List Row)
    (are : rows ≡ matches_of fold_app arguments) where
  abbrev IsSourceFault : JobFault → Type 0
  IsSourceFault f = (f ≡ fault.Memory) ⊎ (HasBadSource rows × ((error : Error)
      × (kind_of error ≡ ValueValidation) × (f ≡ fault.Clap error)))

  fails_at : (f : JobFault) → IsSourceFault f → FailsFold arguments f
  fails_at f h = elim h [
    | inl m ↦ subst (FailsFold arguments) (sym m) tt
    | inr b ↦ subst (FailsFold arguments) (sym b.1.2) (inr (subst HasBadSource are b.0))
  ]

  refuses_at : (f : JobFault) → IsSourceFault f → RefusesFold arguments f
  refuses_at f h = elim h [
    | inl m ↦ subst (RefusesFold arguments) (sym m) tt
    | inr b ↦ subst (RefusesFold arguments) (sym b.1.2) (inr (b.1.1, subst HasBadSource are b.0))
  ]

  answers : (r : Result FoldJob JobFault) → IfOk r (IsFoldJobOf rows) → IfErr r IsSourceFault
      → AnswersFold arguments r
  answers (Ok j) job refused = subst (λ (l : List Row). IsFoldJobOf l j) are job
  answers (Err f) job refused = fails_at f refused

  judges : (r : Result FoldJob JobFault) → fault_of fold_app arguments ≡ []
      → IfErr r IsSourceFault → JudgesFold arguments r
  judges (Ok j) none refused = none
  judges (Err f) none refused = refuses_at f refused

-- where the matches have the gap, the job is that of the matches
of_gap : {gap : ℕ} (rows : List Row) (r : Result FoldJob JobFault) → chosen_gap rows ≡ Some gap
    → IfOk r (λ j. chosen_gap rows ≡ Some gap → IsFoldJobOf rows j) → IfOk r (IsFoldJobOf rows)
of_gap rows (Ok j) e job = job e
of_gap rows (Err f) e job = tt

pub returns-clause-asked : goal.returns-clause-asked
returns-clause-asked c =
    let arguments = map (λ (w : Bor (List ℕ)). w.now) c.args.arguments.now in
    let are = c.in_ok-matches.ensures.matches
    ∙ ap (λ (a : App). matches_of a arguments) c.in_ok-command.ensures in
    let gap = ap (λ (a : App). chosen_gap (matches_of a arguments)) (sym c.in_ok-command.ensures)
    ∙ c.in_ok-matches.ensures.gap in
    answers arguments _ are c.read_fold.result
    (of_gap _ c.read_fold.result (ap (λ (l : List Row). chosen_gap l) are ∙ gap)
    c.read_fold.ensures.job) c.read_fold.ensures.refused

pub returns-clause-judged : goal.returns-clause-judged
returns-clause-judged c =
    let arguments = map (λ (w : Bor (List ℕ)). w.now) c.args.arguments.now in
    let are = c.in_ok-matches.ensures.matches
    ∙ ap (λ (a : App). matches_of a arguments) c.in_ok-command.ensures in
    judges arguments _ are c.read_fold.result
    (ap (λ (a : App). fault_of a arguments) (sym c.in_ok-command.ensures)
    ∙ c.in_ok-matches.ensures.judged) c.read_fold.ensures.refused
