use Rattle.aprs_arguments.proofs.Common.{◌≡◌, ℕ, List, [], None, Option, Some, Row, Text, map, true, false, refl, ap, ◌∙◌, sym, subst, inl, inr, Bor, HasKind, App, err_from_is_err_and, fault_of, is_simple_and_free, takes}
use Rattle.clap.specs.declared.builder.value_parser.ValueParser.{ValueParser}
use Rattle.clap.specs.declared.builder.value_parser.ValueParser.TheVariants as vp
use Rattle.clap.specs.declared.builder.possible_value.PossibleValue.{PossibleValue}
use Rattle.aprs_arguments.specs.Arguments.{FailsSo, form_names, inputs_in, program_app, task_of}
use Rattle.clap.specs.Words.{is_simple, subcommand_of}
use Rattle.aprs_arguments.proofs.Refusals.{refused}
use Rattle.aprs_arguments.proofs.arguments.job.Goals as goal

abbrev at_zero : {A : Type 0} → A → Bor A
at_zero x = record { ref_ptr = (0, 0); now = x }

abbrev value_named : List ℕ → PossibleValue
value_named t = record { name = at_zero t; help = None; aliases = at_zero []; hide = false }

pub returns-in_err-command-clause-asked : goal.returns-in_err-command-clause-asked
returns-in_err-command-clause-asked c =
    let values = at_zero (map value_named form_names) in
    let p = err_from_is_err_and c.from_residual.result c.from_residual.ensures.1 in
    (vp.Values values, (values, refl, refl), rw (p.1, p.2) tt)

pub returns-in_err-command-clause-judged : goal.returns-in_err-command-clause-judged
returns-in_err-command-clause-judged c =
    let values = at_zero (map value_named form_names) in
    let p = err_from_is_err_and c.from_residual.result c.from_residual.ensures.1 in
    (vp.Values values, (values, refl, refl), rw (p.1, p.2) tt)

free : (p : ValueParser) → is_simple_and_free (program_app p) ≡ true
free p = refl

simple : (p : ValueParser) → is_simple (program_app p) ≡ true
simple p = refl

-- what clap finds by the command that was built, it finds by the command as it is defined
found_by : (arguments : List (List ℕ)) {a b : App} {found : Option (Text × List Row)} → a ≡ b
    → found ≡ subcommand_of a arguments → found ≡ subcommand_of b arguments
found_by arguments same is = is ∙ ap (λ a. subcommand_of a arguments) same

pub returns-in-Err-clause-asked : goal.returns-in-Err-clause-asked
returns-in-Err-clause-asked c =
    let built = c.in_ok-command.ensures in
    let arguments = map (λ (w : Bor (List ℕ)). w.now) c.args.arguments.now in
    let fails : FailsSo (program_app built.0) arguments c.clap_fault.result =
    elim c.clap_fault.ensures [
      | inl h ↦ subst (FailsSo (program_app built.0) arguments) (sym h.1) tt
      | inr h ↦ subst (FailsSo (program_app built.0) arguments) (sym h.1)
          (λ t. h.0 (c.in-Err.ensures.passes (ap (λ (a : App). takes a arguments) built.2 ∙ t)))
    ] in
    (built.0, built.1, fails)

pub returns-in-Err-clause-judged : goal.returns-in-Err-clause-judged
returns-in-Err-clause-judged c =
    let built = c.in_ok-command.ensures in
    let arguments = map (λ (w : Bor (List ℕ)). w.now) c.args.arguments.now in
    let error = c.in-Err.error in
    let has = c.in-Err.ensures.kinds (ap is_simple_and_free built.2 ∙ free built.0) in
    let kinds = subst (λ (a : App). HasKind (fault_of a arguments) error) built.2 has in (
      built.0,
      built.1,
      refused (program_app built.0) arguments error c.clap_fault.result kinds
          c.clap_fault.ensures,
    )

pub returns-in_default-clause-judged : goal.returns-in_default-clause-judged
returns-in_default-clause-judged c =
    let built = c.in_ok-command.ensures in
    let arguments = map (λ (w : Bor (List ℕ)). w.now) c.args.arguments.now in
    let kinds = c.in-Ok.ensures.kinds (ap is_simple_and_free built.2 ∙ free built.0) in
    (built.0, built.1, ap (λ (a : App). fault_of a arguments) (sym built.2) ∙ kinds)

pub returns-clause-judged : goal.returns-clause-judged
returns-clause-judged c =
    let built = c.in_ok-command.ensures in
    let arguments = map (λ (w : Bor (List ℕ)). w.now) c.args.arguments.now in
    let kinds = c.in-Ok.ensures.kinds (ap is_simple_and_free built.2 ∙ free built.0) in
    (built.0, built.1, ap (λ (a : App). fault_of a arguments) (sym built.2) ∙ kinds)

pub returns-in_default-clause-asked : goal.returns-in_default-clause-asked
returns-in_default-clause-asked c =
    let built = c.in_ok-command.ensures in
    let found = found_by (map (λ (w : Bor (List ℕ)). w.now) c.args.arguments.now)
    built.2 (c.in-Ok.ensures.matches (ap is_simple built.2 ∙ simple built.0)).1 in
    (built.0, built.1, ap task_of (sym found) ∙ sym c.read_task.ensures ∙ c.in_default.is)

pub returns-in_err-inputs-clause-asked : goal.returns-in_err-inputs-clause-asked
returns-in_err-inputs-clause-asked c =
    let built = c.in_ok-command.ensures in
    let p = err_from_is_err_and c.from_residual-in_err-inputs.result
    c.from_residual-in_err-inputs.ensures.1 in
    (built.0, built.1, rw (p.1, p.2) tt)

pub returns-in_err-inputs-clause-judged : goal.returns-in_err-inputs-clause-judged
returns-in_err-inputs-clause-judged c =
    let built = c.in_ok-command.ensures in
    let p = err_from_is_err_and c.from_residual-in_err-inputs.result
    c.from_residual-in_err-inputs.ensures.1 in
    (built.0, built.1, rw (p.1, p.2) tt)

pub returns-clause-asked : goal.returns-clause-asked
returns-clause-asked c =
    let built = c.in_ok-command.ensures in
    let found = found_by (map (λ (w : Bor (List ℕ)). w.now) c.args.arguments.now)
    built.2 (c.in-Ok.ensures.matches (ap is_simple built.2 ∙ simple built.0)).1 in (
      built.0,
      built.1,
      record {
        task = ap task_of (sym found) ∙ sym c.read_task.ensures ∙ c.in-Some.is
            ∙ ap Some (sym c.with_inputs.ensures.task);
        inputs = c.with_inputs.ensures.inputs ∙ c.in_ok-inputs.ensures ∙ ap inputs_in found;
      },
    )
