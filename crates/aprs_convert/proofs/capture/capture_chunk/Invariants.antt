use Rattle.aprs_convert.proofs.Common.{length, Calls, Going, device_of}
use Rattle.aprs_convert.specs.Plan.{capture_text}
use Rattle.aprs_convert.proofs.Captures.{HasCaptured}
use Rattle.aprs_convert.proofs.capture.capture_chunk.Given as goal

abbrev pub invariant-loop-rest : goal.invariant-loop-rest
invariant-loop-rest g l = record {
  calls : Calls Going l.initial.w l.w;
  captured : HasCaptured (capture_text l.receiver l.moment) l.initial.reader l.reader
      (g.W.Write.contents (device_of l.initial.w))
      (g.W.Write.contents (device_of l.w)) l.chunk l.rest;
}

abbrev pub decreases-loop-rest : goal.decreases-loop-rest
decreases-loop-rest g l = length l.rest
