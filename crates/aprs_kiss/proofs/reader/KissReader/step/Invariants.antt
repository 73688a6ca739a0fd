use Rattle.aprs_kiss.proofs.Common.{length}
use Rattle.aprs_kiss.proofs.Reading.{HasRead}
use Rattle.aprs_kiss.proofs.reader.KissReader.step.Given as goal

abbrev pub invariant-loop-byte : goal.invariant-loop-byte
invariant-loop-byte l = HasRead l.initial.self l.chunk l.self l.rest

abbrev pub decreases-loop-byte : goal.decreases-loop-byte
decreases-loop-byte l = length l.rest
