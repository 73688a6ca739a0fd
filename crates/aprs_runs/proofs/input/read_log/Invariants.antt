use Rattle.aprs_runs.proofs.Common.{◌≡◌, ◌-◌, ℕ, List, Option, None, Calls, Going, device_of, most_input, Awaits, line_count_of, loan_of, lent_device, stop_of}
use Rattle.aprs_runs.proofs.Logs.{Took}
use Rattle.aprs_runs.proofs.input.read_log.Given as goal

abbrev pub invariant-lines : goal.invariant-lines
invariant-lines g l =
    let remaining = g.R.Read.remaining in
    record {
      same_reference : loan_of l.reader ≡ loan_of l.initial.reader;
      calls : Calls Going l.fn.r (lent_device l.reader);
      going : stop_of l.reader ≡ None;
      took : (end : Option (List ℕ)) → Took
          (Awaits (remaining (device_of (lent_device l.initial.reader))) end l.initial.reader)
          (Awaits (remaining (device_of (lent_device l.reader))) end l.reader) l.fn.store l.store;
      gap : l.store.gap ≡ l.fn.store.gap;
    }

abbrev pub decreases-lines : goal.decreases-lines
decreases-lines g l = most_input - line_count_of l.reader
