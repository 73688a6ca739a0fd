use Rattle.aprs_arguments.proofs.Common.{List, [], Option, unwrap_or, codes, ap, ◌∙◌, IfOk-weaker, Text, found_of, raw_values-rows}
use Rattle.aprs_arguments.proofs.arguments.read_given_inputs.Goals as goal

pub returns-in-Some : goal.returns-in-Some
returns-in-Some c =
    let found = found_of c.args.matches.now in
    let read = c.in-Some.ensures ∙ raw_values-rows found (codes "input") in
    IfOk-weaker c.copy_paths.result _ _
    (λ v h. h ∙ ap (λ (o : Option (List Text)). unwrap_or o []) read) c.copy_paths.ensures

pub returns-in-None : goal.returns-in-None
returns-in-None c =
    let found = found_of c.args.matches.now in
    let read = c.in-None.ensures ∙ raw_values-rows found (codes "input") in
    let empty = c.new.ensures.items in
    rw empty (ap (λ (o : Option (List Text)). unwrap_or o []) read)
