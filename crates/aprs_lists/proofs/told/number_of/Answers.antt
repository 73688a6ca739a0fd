use Rattle.aprs_lists.proofs.Common.{◌∙◌, ap, sym}
use Rattle.std.specs.Option.{option_map}
use Rattle.aprs_lists.specs.Told.{number_by}
use Rattle.aprs_lists.proofs.TextNumber.{number_held}
use Rattle.aprs_lists.proofs.told.number_of.Goals as goal

pub returns-in-None : goal.returns-in-None
returns-in-None c =
    let m = c.args.message.now in
    number_held m.source m.text.now _ c.number_in.ensures
    ∙ ap (λ o. number_by (option_map (λ y. y.now) o) m.text.now) (sym c.in-None.is)
