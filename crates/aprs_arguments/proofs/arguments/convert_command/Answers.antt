use Rattle.aprs_arguments.proofs.Common.{ap, ap₂, ◌∙◌, IfOk-weaker, app_of_fields, with_rule}
use Rattle.aprs_arguments.proofs.Commands.{has_globals, none_with}
use Rattle.aprs_arguments.proofs.arguments.convert_command.Goals as goal

pub returns-clause-app : goal.returns-clause-app
returns-clause-app c =
    let form = c.form_arg-form.ensures.rule in
    let named = ap app_of_fields c.about.ensures ∙ c.new.ensures.app in
    let a1 = c.in_ok-with_form.ensures.shape c.form_arg-form.ensures.local
    ∙ ap₂ with_rule named form.2 in
    let a2 = c.in_ok-with_input.ensures.shape c.input_arg-input.ensures.local
    ∙ ap₂ with_rule a1 c.input_arg-input.ensures.rule in
    let a3 = c.in_ok-with_receiver.ensures.shape c.option_arg-receiver.ensures.local
    ∙ ap₂ with_rule a2 c.option_arg-receiver.ensures.rule in
    IfOk-weaker c.arg-4.result _ _ (λ m h. (
      form.0,
      form.1,
      h.shape c.option_arg-moment.ensures.local ∙ ap₂ with_rule a3 c.option_arg-moment.ensures.rule,
    )) c.arg-4.ensures

pub returns-clause-globals : goal.returns-clause-globals
returns-clause-globals c =
    let named = ap has_globals c.about.ensures ∙ c.new.ensures.local in
    let with_form = none_with c.in_ok-with_form.ensures.globals named
    c.form_arg-form.ensures.local in
    let with_input = none_with c.in_ok-with_input.ensures.globals with_form
    c.input_arg-input.ensures.local in
    let with_receiver = none_with c.in_ok-with_receiver.ensures.globals with_input
    c.option_arg-receiver.ensures.local in
    IfOk-weaker c.arg-4.result _ _
    (λ m h. none_with h.globals with_receiver c.option_arg-moment.ensures.local) c.arg-4.ensures
