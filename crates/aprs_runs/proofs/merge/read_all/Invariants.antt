use Rattle.aprs_runs.proofs.Common.{◌≢◌, ◌≡◌, ◌<◌, ℕ, List, [], map, device_of}
use Rattle.aprs_runs.proofs.Merges.{HasRead, some_each}
use Rattle.aprs_runs.proofs.Readers.{ReadsFirst}
use Rattle.aprs_runs.proofs.merge.read_all.Given as goal

abbrev pub invariant-loop-index : goal.invariant-loop-index
invariant-loop-index g l = record {
  calls : ReadsFirst l.index l.fn.inputs l.inputs;
  gap : l.gathered.gap ≡ l.fn.gap;
  some : l.gathered.rows ≢ [] → 0 < l.index;
  read : (inputs : List (List ℕ)) → map (λ r. g.R.Read.remaining (device_of r)) l.fn.inputs
      ≡ some_each inputs
      → HasRead l.fn.gap l.limit inputs (map (λ r. g.R.Read.remaining (device_of r)) l.inputs)
      l.index l.gathered.rows;
}
