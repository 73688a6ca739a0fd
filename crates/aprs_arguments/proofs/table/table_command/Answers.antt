use Rattle.aprs_arguments.proofs.Common.{ap, ap₂, ◌∙◌, IfOk-weaker, app_of_fields, with_rule}
use Rattle.aprs_arguments.proofs.Commands.{versioned}
use Rattle.aprs_arguments.proofs.table.table_command.Goals as goal

pub returns : goal.returns
returns c =
    let named = ap app_of_fields c.after_long_help.ensures ∙ ap app_of_fields c.after_help.ensures
    ∙ ap app_of_fields c.override_usage.ensures ∙ ap app_of_fields c.about.ensures
    ∙ ap app_of_fields c.version.ensures ∙ ap versioned c.new.ensures.app in
    let with_inputs = c.in_ok-with_inputs.ensures.shape c.inputs_arg-inputs.ensures.local
    ∙ ap₂ with_rule named c.inputs_arg-inputs.ensures.rule in
    let with_gap = c.in_ok-with_gap.ensures.shape c.gap_arg-gap.ensures.local
    ∙ ap₂ with_rule with_inputs c.gap_arg-gap.ensures.rule in
    IfOk-weaker c.arg-3.result _ _ (λ m h. h.shape c.message_gap_arg-message_gap.ensures.local
    ∙ ap₂ with_rule with_gap c.message_gap_arg-message_gap.ensures.rule) c.arg-3.ensures
