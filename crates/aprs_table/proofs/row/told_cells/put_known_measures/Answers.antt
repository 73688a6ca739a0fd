use Rattle.aprs_table.proofs.Chains.{◌before◌, refused}
use Rattle.aprs_table.proofs.row.told_cells.put_known_measures.Goals as goal

pub returns-in_err-put_weather : goal.returns-in_err-put_weather
returns-in_err-put_weather g c = refused c.from_residual.ensures.0 c.in_err-put_weather.ensures _

pub returns-in_err-put_telemetry : goal.returns-in_err-put_telemetry
returns-in_err-put_telemetry g c = c.in_ok-put_weather.ensures
    before refused c.from_residual-in_err-put_telemetry.ensures.0 c.in_err-put_telemetry.ensures _

pub returns : goal.returns
returns g c = c.in_ok-put_weather.ensures before c.in_ok-put_telemetry.ensures
    before c.put_says.ensures
