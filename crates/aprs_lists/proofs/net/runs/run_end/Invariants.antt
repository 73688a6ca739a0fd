use Rattle.std.proofs.Common.{◌≡◌, drop, map}
use Rattle.aprs_transmissions.specs.Gap.{millis_of}
use Rattle.aprs_lists.specs.Copies.{copy_of}
use Rattle.aprs_lists.specs.Runs.{runs_after, sent_first, sent_up_to}
use Rattle.aprs_lists.proofs.net.runs.run_end.Given as goal

abbrev pub invariant-loop-i : goal.invariant-loop-i
invariant-loop-i l =
    runs_after (millis_of l.gap) (sent_first (copy_of l.first)) (map copy_of l.fn.copies)
    ≡ runs_after (millis_of l.gap) (sent_up_to l.last (copy_of l.first)) (map copy_of (drop l.i l.fn.copies))
