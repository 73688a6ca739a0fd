use Rattle.std.proofs.Common.{◌≡◌, ℕ, ◌<◌, get_or, false}
use Rattle.aprs_ax25.specs.FrameFault.{ends_field}
use Rattle.aprs_ax25.proofs.scan.field_len.Given as goal

abbrev pub invariant-loop-i : goal.invariant-loop-i
invariant-loop-i l = (k : ℕ) → k < l.i → ends_field (get_or l.bytes k 0) ≡ false
