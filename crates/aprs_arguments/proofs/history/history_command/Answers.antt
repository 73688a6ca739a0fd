use Rattle.aprs_arguments.proofs.Common.{ap, ap₂, ◌∙◌, IfOk-weaker, app_of_fields, with_rule}
use Rattle.aprs_arguments.proofs.Commands.{versioned}
use Rattle.aprs_arguments.proofs.history.history_command.Goals as goal

pub returns : goal.returns
returns c =
    let named = ap app_of_fields c.after_long_help.ensures ∙ ap app_of_fields c.about.ensures
    ∙ ap app_of_fields c.version.ensures ∙ ap versioned c.new.ensures.app in
    let with_inputs = c.in_ok-with_inputs.ensures.shape c.inputs_arg-inputs.ensures.local
    ∙ ap₂ with_rule named c.inputs_arg-inputs.ensures.rule in
    IfOk-weaker c.arg-2.result _ _ (λ m h. h.shape c.gap_arg-gap.ensures.local
    ∙ ap₂ with_rule with_inputs c.gap_arg-gap.ensures.rule) c.arg-2.ensures
