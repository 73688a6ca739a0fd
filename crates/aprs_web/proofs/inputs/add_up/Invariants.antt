use Rattle.aprs_web.proofs.Common.{◌≡◌, ◌+◌, ◌-◌, ◌≤◌, drop, fold, sum}
use Rattle.aprs_web.proofs.inputs.add_up.Given as goal

abbrev pub invariant-loop-length : goal.invariant-loop-length
invariant-loop-length l = (l.rest ≤ l.fn.total)
    × (sum l.fn.lengths ≡ fold (λ a x. a + x) (l.fn.total - l.rest) (drop l.length-index l.fn.lengths))
