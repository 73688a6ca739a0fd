use Rattle.std.specs.Io.KnownBytes.{Keeps}
use Rattle.aprs_host.proofs.retried.write_some.Given as goal

abbrev pub invariant-loop : goal.invariant-loop
invariant-loop g l = Keeps (g.W.Write.contents l.initial.device) (g.W.Write.contents l.device)
