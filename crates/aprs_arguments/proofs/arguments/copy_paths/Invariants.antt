use Rattle.aprs_arguments.proofs.Common.{◌≡◌, map, take}
use Rattle.aprs_arguments.specs.Arguments.{paths_of}
use Rattle.aprs_arguments.proofs.arguments.copy_paths.Given as goal

abbrev pub invariant-loop-path : goal.invariant-loop-path
invariant-loop-path l = paths_of l.inputs.items ≡ map (λ path. path.now) (take l.path-index l.paths)
