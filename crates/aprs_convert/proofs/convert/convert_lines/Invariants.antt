use Rattle.aprs_convert.proofs.Common.{◌≡◌, ◌-◌, ℕ, List, Option, None, flat_map, MAX_INPUT, Calls, Going, device_of, Awaits, line_count_of, loan_of, lent_device, stop_of}
use Rattle.aprs_convert.specs.Plan.{line_text}
use Rattle.aprs_convert.proofs.Seen.{Ran}
use Rattle.aprs_convert.proofs.convert.convert_lines.Given as goal

abbrev pub invariant-lines : goal.invariant-lines
invariant-lines g l =
    let remaining = g.R.Read.remaining in
    let contents = g.W.Write.contents in
    record {
      same_reference : loan_of l.reader ≡ loan_of l.initial.reader;
      reads : Calls Going l.fn.r (lent_device l.reader);
      writes : Calls Going l.initial.w l.w;
      going : stop_of l.reader ≡ None;
      ran : (end : Option (List ℕ)) → Ran (flat_map (line_text l.form))
          (Awaits (remaining (device_of (lent_device l.initial.reader))) end l.initial.reader)
          (Awaits (remaining (device_of (lent_device l.reader))) end l.reader)
          (contents (device_of l.initial.w)) (contents (device_of l.w));
    }

abbrev pub decreases-lines : goal.decreases-lines
decreases-lines g l = MAX_INPUT - line_count_of l.reader
