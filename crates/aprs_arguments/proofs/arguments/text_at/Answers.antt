use Rattle.aprs_arguments.proofs.Common.{◌∙◌, found_of, first_value-rows}
use Rattle.aprs_arguments.proofs.arguments.text_at.Goals as goal

pub returns : goal.returns
returns c = c.get_str.ensures ∙ first_value-rows (found_of c.args.matches.now) c.args.id.now
