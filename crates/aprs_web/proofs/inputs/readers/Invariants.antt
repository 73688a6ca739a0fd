use Rattle.aprs_web.proofs.Common.{◌≡◌, List, ℕ, map, Some, drop, ◌++◌}
use Rattle.aprs_web.specs.Runs.{input_texts}
use Rattle.aprs_web.proofs.inputs.readers.Given as goal

abbrev pub invariant-loop-length : goal.invariant-loop-length
invariant-loop-length g l = map (λ r. Some r.device.now) l.readers.items
    ++ map (λ (input : List ℕ). Some input) (input_texts (drop l.length-index l.fn.lengths) l.rest)
    ≡ map (λ (input : List ℕ). Some input) (input_texts l.fn.lengths l.fn.inputs)
