use Rattle.aprs_arguments.proofs.Common.{ℕ, List, map, ap, ◌∙◌, sym, subst, inl, inr, Bor, Row, and_parts, app_of}
use Rattle.aprs_arguments.specs.Arguments.{FailsGathering, chosen_gap}
use Rattle.aprs_arguments.proofs.Refusals.{refused}
use Rattle.aprs_arguments.proofs.arguments.read_matches_and_gap.Goals as goal

pub returns-in-Err-clause-refused : goal.returns-in-Err-clause-refused
returns-in-Err-clause-refused c =
    let a = app_of c.args.command.now in
    let arguments = map (λ (w : Bor (List ℕ)). w.now) c.args.arguments.now in
    elim c.clap_fault.ensures [
      | inl h ↦ subst (FailsGathering a arguments) (sym h.1) tt
      | inr h ↦ subst (FailsGathering a arguments) (sym h.1)
          (λ t. h.0 (c.in-Err.ensures.passes t))
    ]

pub returns-in-Err-clause-judged : goal.returns-in-Err-clause-judged
returns-in-Err-clause-judged c =
    refused (app_of c.args.command.now) (map (λ (w : Bor (List ℕ)). w.now) c.args.arguments.now)
    c.in-Err.error c.clap_fault.result (c.in-Err.ensures.kinds c.requires) c.clap_fault.ensures

pub returns-in-Some-clause-matches : goal.returns-in-Some-clause-matches
returns-in-Some-clause-matches c = (c.in-Ok.ensures.ok.2 (and_parts _ _ c.requires).0).0

pub returns-in-Some-clause-gap : goal.returns-in-Some-clause-gap
returns-in-Some-clause-gap c =
    sym (ap (λ (l : List Row). chosen_gap l) (c.in-Ok.ensures.ok.2 (and_parts _ _ c.requires).0).0)
    ∙ sym c.read_chosen_gap.ensures ∙ c.in-Some.is

pub returns-in-Some-clause-judged : goal.returns-in-Some-clause-judged
returns-in-Some-clause-judged c = c.in-Ok.ensures.kinds c.requires

pub returns-clause-judged : goal.returns-clause-judged
returns-clause-judged c = c.in-Ok.ensures.kinds c.requires

pub returns-clause-refused : goal.returns-clause-refused
returns-clause-refused c =
    sym (ap (λ (l : List Row). chosen_gap l) (c.in-Ok.ensures.ok.2 (and_parts _ _ c.requires).0).0)
    ∙ sym c.read_chosen_gap.ensures ∙ c.in-None.is
