use Rattle.aprs_arguments.proofs.Common.{◌≡◌, ap, ap₂, ◌∙◌, subst, IfOk-weaker, App, with_subcommand}
use Rattle.std.specs.Prelude.{IfOk, Ok, Result}
use Rattle.aprs_arguments.proofs.arguments.program.Goals as goal

-- what is said of a command where it was made is so of the one that was added
of_added : {C E : Type 0} (P : C → Type 0) {made : Result C E} {added : C} → made ≡ Ok added
    → IfOk made P → P added
of_added P is said = subst (λ r. IfOk r P) is said

pub returns : goal.returns
returns c =
    let top = λ (a : App). a.top in
    let convert = of_added _ c.in_ok-with_convert.ensures.1 c.convert_command-convert.ensures.app in
    let with_convert = c.in_ok-with_convert.ensures.2
    ∙ ap₂ with_subcommand c.top_command.ensures (ap top convert.2) in
    let with_check = c.in_ok-with_check.ensures.2 ∙ ap₂ with_subcommand with_convert
        (ap top (of_added _ c.in_ok-with_check.ensures.1 c.check_command-check.ensures.app)) in
    let with_merge = c.in_ok-with_merge.ensures.2 ∙ ap₂ with_subcommand with_check
        (ap top (of_added _ c.in_ok-with_merge.ensures.1 c.gathering_command-merge.ensures.app)) in
    let with_show = c.in_ok-with_show.ensures.2 ∙ ap₂ with_subcommand with_merge
        (ap top (of_added _ c.in_ok-with_show.ensures.1 c.gathering_command-show.ensures.app)) in
    IfOk-weaker c.with_command-5.result _ _ (λ m h. (
      convert.0,
      convert.1,
      h.2 ∙ ap₂ with_subcommand with_show
          (ap top (of_added _ h.1 c.widen_command-widen.ensures.app)),
    )) c.with_command-5.ensures
