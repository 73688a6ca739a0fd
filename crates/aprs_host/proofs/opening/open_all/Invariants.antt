use Rattle.aprs_host.proofs.Common.{take}
use Rattle.aprs_host.specs.Opening.{AreAt, AsksFor, opened}
use Rattle.aprs_host.proofs.opening.open_all.Given as goal

abbrev pub invariant-loop-path : goal.invariant-loop-path
invariant-loop-path g l = record {
  at_paths : AreAt g.O.Opener.path_of l.inputs.items (take l.path-index l.paths);
  asked : AsksFor (g.O.Opener.asked l.initial.opener) (g.O.Opener.asked l.opener)
      (opened (take l.path-index l.paths));
}
