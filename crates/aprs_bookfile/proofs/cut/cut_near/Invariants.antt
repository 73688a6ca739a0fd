use Rattle.aprs_bookfile.proofs.Common.{◌≡◌, ◌<◌, ℕ, true, get_or, is_byte}
use Rattle.aprs_bookfile.proofs.cut.cut_near.Given as goal

abbrev pub invariant-loop-i : goal.invariant-loop-i
invariant-loop-i l = (k : ℕ) → k < l.i → ¬ (is_byte l.stop (get_or l.text k 0) ≡ true)
