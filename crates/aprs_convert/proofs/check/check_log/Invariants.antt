use Rattle.aprs_convert.proofs.Common.{◌≡◌, ◌-◌, ℕ, List, Option, None, MAX_INPUT, Calls, Going, device_of, Awaits, line_count_of, loan_of, lent_device, stop_of}
use Rattle.aprs_convert.proofs.Checked.{Checked}
use Rattle.aprs_convert.proofs.check.check_log.Given as goal

abbrev pub invariant-lines : goal.invariant-lines
invariant-lines g l =
    let remaining = g.R.Read.remaining in
    let contents = g.W.Write.contents in
    record {
      same_reference : loan_of l.reader ≡ loan_of l.initial.reader;
      reads : Calls Going l.fn.r (lent_device l.reader);
      writes : Calls Going l.initial.w l.w;
      going : stop_of l.reader ≡ None;
      checked : (end : Option (List ℕ)) → Checked
          (Awaits (remaining (device_of (lent_device l.initial.reader))) end l.initial.reader)
          (Awaits (remaining (device_of (lent_device l.reader))) end l.reader)
          (contents (device_of l.initial.w)) (contents (device_of l.w))
          l.heard l.passed (line_count_of l.reader);
    }

abbrev pub decreases-lines : goal.decreases-lines
decreases-lines g l = MAX_INPUT - line_count_of l.reader
