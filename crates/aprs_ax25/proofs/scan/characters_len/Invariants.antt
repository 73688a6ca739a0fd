use Rattle.std.proofs.Common.{◌≡◌, ℕ, ◌<◌, get_or, false}
use Rattle.aprs_ax25.specs.FrameFault.{ends_characters}
use Rattle.aprs_ax25.proofs.scan.characters_len.Given as goal

abbrev pub invariant-loop-i : goal.invariant-loop-i
invariant-loop-i l = (k : ℕ) → k < l.i → ends_characters (get_or l.six k 0) ≡ false
