use Rattle.aprs_log.proofs.Common.{◌≡◌, Option, None, Some, Calls, device_of}
use Rattle.aprs_log.specs.ReaderSteps.{Moves, steps_left}
use Rattle.aprs_log.specs.States.{last_in}
use Rattle.aprs_log.specs.Reader.{HasLf, current_of, read_ahead_of, line_count_of, loan_of, lent_device, stop_of}
use Rattle.aprs_log.specs.declared.fault.LogFault.{LogFault}
use Rattle.aprs_log.proofs.reader.LogReader.advance.Given as goal

abbrev pub invariant-loop-self : goal.invariant-loop-self
invariant-loop-self g l = record {
  same_reference : loan_of l.self ≡ loan_of l.initial.self;
  lines : line_count_of l.self ≡ line_count_of l.initial.self;
  current : current_of l.self ≡ current_of l.initial.self;
  moves : Moves (g.R.Read.remaining (device_of (lent_device l.initial.self))) l.initial.self
      (g.R.Read.remaining (device_of (lent_device l.self))) l.self;
  unread : stop_of l.initial.self ≡ None → HasLf (read_ahead_of l.initial.self)
      → (lent_device l.self ≡ lent_device l.initial.self)
      × (stop_of l.self ≡ None → HasLf (read_ahead_of l.self));
  stays : (stop : Option LogFault) → stop_of l.initial.self ≡ Some stop
      → (stop_of l.self ≡ Some stop) × (lent_device l.self ≡ lent_device l.initial.self);
  calls : stop_of l.initial.self ≡ None
      → Calls (last_in l.self.state) (lent_device l.initial.self) (lent_device l.self);
}

abbrev pub decreases-loop-self : goal.decreases-loop-self
decreases-loop-self g l = steps_left l.self
