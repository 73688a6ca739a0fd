use Rattle.aprs_arguments.proofs.Common.{◌∙◌, ℕ, List, map, ap, sym, Bor, App, fault_of}
use Rattle.aprs_arguments.proofs.history.history_job.Goals as goal

pub returns-clause-judged : goal.returns-clause-judged
returns-clause-judged c =
    let arguments = map (λ (w : Bor (List ℕ)). w.now) c.args.arguments.now in
    ap (λ (a : App). fault_of a arguments) (sym c.in_ok-command.ensures)
    ∙ c.in_ok-matches.ensures.judged
