use Rattle.aprs_arguments.proofs.Common.{◌≡◌, List, Option, Some, None, option_map, refl, sym, ◌∙◌, IfOk-weaker, Row, Text, found_of, rows_of, subcommand_rows_of}
use Rattle.aprs_arguments.specs.Arguments.{given_inputs, inputs_in}
use Rattle.aprs_arguments.proofs.arguments.read_inputs.Goals as goal

named_in : (found : Option (Text × List Row)) (rows : List Row)
    → Some rows ≡ option_map (λ p. p.1) found → inputs_in found ≡ given_inputs rows
named_in None rows e = absurd cc
named_in (Some p) rows e = let same : p.1 ≡ rows = cc in rw same refl

pub returns-in-Some : goal.returns-in-Some
returns-in-Some c =
    let named = named_in (subcommand_rows_of c.args.matches.now)
    (rows_of (found_of c.in-Some.inner.now)) c.in-Some.ensures.rows in
    IfOk-weaker c.read_given_inputs.result _ _ (λ v h. h ∙ sym named) c.read_given_inputs.ensures
