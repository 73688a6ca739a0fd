use Rattle.aprs_log.proofs.Common.{Sends-is}
use Rattle.aprs_log.proofs.write.LogWriter.write.Goals as goal

pub returns-clause-sends : goal.returns-clause-sends
returns-clause-sends g c = Sends-is c.send.ensures c.put_line-len.ensures.line
