use Rattle.aprs_arguments.proofs.Common.{ap, ap₂, ◌∙◌, IfOk-weaker, app_of_fields, with_rule}
use Rattle.aprs_arguments.proofs.Commands.{has_globals, none_with}
use Rattle.aprs_arguments.proofs.arguments.widen_command.Goals as goal

pub returns-clause-app : goal.returns-clause-app
returns-clause-app c =
    let named = ap app_of_fields c.about.ensures ∙ c.new.ensures.app in
    let with_seconds = c.in_ok-with_seconds.ensures.shape c.seconds_arg-seconds.ensures.local
    ∙ ap₂ with_rule named c.seconds_arg-seconds.ensures.rule in
    IfOk-weaker c.arg-2.result _ _ (λ m h. h.shape c.input_arg-input.ensures.local
    ∙ ap₂ with_rule with_seconds c.input_arg-input.ensures.rule) c.arg-2.ensures

pub returns-clause-globals : goal.returns-clause-globals
returns-clause-globals c =
    let named = ap has_globals c.about.ensures ∙ c.new.ensures.local in
    let with_seconds = none_with c.in_ok-with_seconds.ensures.globals named
    c.seconds_arg-seconds.ensures.local in
    IfOk-weaker c.arg-2.result _ _
    (λ m h. none_with h.globals with_seconds c.input_arg-input.ensures.local) c.arg-2.ensures
