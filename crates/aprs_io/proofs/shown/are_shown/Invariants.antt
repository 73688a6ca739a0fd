use Rattle.aprs_io.proofs.Common.{◌≡◌, take, list_all}
use Rattle.aprs_io.specs.Shown.{is_shown_as_is}
use Rattle.aprs_io.proofs.shown.are_shown.Given as goal

abbrev pub invariant-loop-b : goal.invariant-loop-b
invariant-loop-b l = l.all ≡ list_all is_shown_as_is (take l.b-index l.bytes)
