use Rattle.aprs_kiss.proofs.Standing.{stands_somewhere}
use Rattle.aprs_kiss.proofs.laws.a_reader_stands_after_some_bytes.Goals as goal

pub returns : goal.returns
returns c = stands_somewhere c.args._reader.now
