use Rattle.aprs_arguments.proofs.Common.{ap, ap₂, ◌∙◌, IfOk-weaker, app_of_fields, with_rule}
use Rattle.aprs_arguments.proofs.Commands.{versioned}
use Rattle.aprs_arguments.proofs.fold.fold_command.Goals as goal

pub returns : goal.returns
returns c =
    let named = ap app_of_fields c.after_long_help.ensures ∙ ap app_of_fields c.about.ensures
    ∙ ap app_of_fields c.version.ensures ∙ ap versioned c.new.ensures.app in
    let with_inputs = c.in_ok-with_inputs.ensures.shape c.books_arg-inputs.ensures.local
    ∙ ap₂ with_rule named c.books_arg-inputs.ensures.rule in
    let with_gap = c.in_ok-with_gap.ensures.shape c.gap_arg-gap.ensures.local
    ∙ ap₂ with_rule with_inputs c.gap_arg-gap.ensures.rule in
    let with_from = c.in_ok-with_from.ensures.shape c.option_arg-from.ensures.local
    ∙ ap₂ with_rule with_gap c.option_arg-from.ensures.rule in
    let with_until = c.in_ok-with_until.ensures.shape c.option_arg-until.ensures.local
    ∙ ap₂ with_rule with_from c.option_arg-until.ensures.rule in
    let with_new_to = c.in_ok-with_new_to.ensures.shape c.option_arg-new_to.ensures.local
    ∙ ap₂ with_rule with_until c.option_arg-new_to.ensures.rule in
    IfOk-weaker c.arg-6.result _ _ (λ m h. h.shape c.check_arg-check.ensures.local
    ∙ ap₂ with_rule with_new_to c.check_arg-check.ensures.rule) c.arg-6.ensures
