use Rattle.std.proofs.Common.{◌≡◌, ◌/◌, length}
use Rattle.std.specs.List.{list_all}
use Rattle.aprs_ax25.specs.FrameFault.{sevens, has_callsign}
use Rattle.aprs_ax25.proofs.scan.have_callsigns.Given as goal

abbrev pub invariant-loop-rest : goal.invariant-loop-rest
invariant-loop-rest l =
    list_all has_callsign (sevens (length l.initial.rest / 7) l.initial.rest)
    ≡ list_all has_callsign (sevens (length l.rest / 7) l.rest)

abbrev pub decreases-loop-rest : goal.decreases-loop-rest
decreases-loop-rest l = length l.rest
