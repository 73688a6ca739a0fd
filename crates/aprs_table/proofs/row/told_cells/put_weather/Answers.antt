use Rattle.aprs_table.proofs.Common.{◌∙◌, ap, sym, Option, Puts-is}
use Rattle.aprs_details.specs.declared.weather.Weather.{Weather}
use Rattle.aprs_table.specs.Cells.{weather_cells, weather_in}
use Rattle.aprs_table.proofs.Lines.{tabbed}
use Rattle.aprs_table.proofs.row.told_cells.put_weather.Goals as goal

pub returns-in-Some : goal.returns-in-Some
returns-in-Some g c =
    Puts-is c.put_cells.ensures (tabbed c.weather_cells.result _
    (c.weather_cells.ensures ∙ sym (ap (λ (o : Option Weather). weather_cells (weather_in o)) c.in-Some.is)))
