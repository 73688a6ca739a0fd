use Rattle.aprs_lists.proofs.Common.{◌∙◌, [], ap, sym}
use Rattle.std.specs.Option.{option_map}
use Rattle.aprs_lists.specs.Told.{reply_number}
use Rattle.aprs_lists.proofs.TextNumber.{number_held}
use Rattle.aprs_lists.proofs.net.reply_number.Goals as goal

pub returns-in-None : goal.returns-in-None
returns-in-None c =
    number_held (record { characters = []; ssid = 0 }) c.args.text.now _ c.number_in.ensures
    ∙ ap (λ o. reply_number (option_map (λ y. y.now) o) c.args.text.now) (sym c.in-None.is)
