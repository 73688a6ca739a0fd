use Rattle.aprs_convert.proofs.Common.{◌∙◌, Sends-is}
use Rattle.aprs_convert.proofs.write_line.write_monitor_line.Goals as goal

pub returns : goal.returns
returns g c = Sends-is c.send.ensures (c.as_slice.ensures.value ∙ c.push_monitor_line.ensures)
