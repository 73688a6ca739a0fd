use Rattle.aprs_log.proofs.Common.{◌≡◌, ◌+◌, ap, sym, ◌∙◌, arith}
use Rattle.aprs_log.specs.Moment.{moment_text}
use Rattle.aprs_log.proofs.Clocks.{same_day, since_midnight, time_put}
use Rattle.aprs_log.proofs.moment.writer.MomentWriter.text.Goals as goal
use Rattle.aprs_log.proofs.moment.writer.MomentWriter.text.Goals.{then-time-ge-MILLIS_A_DAY, else-time-ge-MILLIS_A_DAY+then-time-self, else-time-ge-MILLIS_A_DAY+else-time-self}

pub invariant_of-self-clause-writes : goal.invariant_of-self-clause-writes
invariant_of-self-clause-writes c =
    let self = c.args.self.now in
    let sum = since_midnight c.millis.result self.midnight (omega arith) self.early
    c.if-time-ge-MILLIS_A_DAY.false in
    let day = same_day c.millis.result self.midnight self.time _ self.starts self.within
    c.if-time-ge-MILLIS_A_DAY.false sum in
    time_put self.text c.copy_from_slice.new.self c.millis.result (self.midnight + self.time) _
    self.writes day.0 day.1 (c.copy_from_slice.ensures.after ∙ c.time_text.ensures)
    ∙ ap moment_text (sym sum)

pub returns : goal.returns
returns c =
    let self = c.args.self.now in
    let new = c.if-time-ge-MILLIS_A_DAY.self in
    let sum : new.midnight + new.time ≡ c.args.moment
    = elim c.if-time-ge-MILLIS_A_DAY.branch [
      | then-time-ge-MILLIS_A_DAY w ↦
          ap (λ s. s.midnight + s.time) w.self-is ∙ w.begin_day.ensures
      | else-time-ge-MILLIS_A_DAY+then-time-self w ↦
          ap (λ s. s.midnight + s.time) w.self-is
          ∙ since_midnight c.millis.result self.midnight (omega arith) self.early
          w.if-time-ge-MILLIS_A_DAY.false ∙ c.millis.ensures.value
      | else-time-ge-MILLIS_A_DAY+else-time-self w ↦
          ap (λ s. s.midnight + s.time) w.self-is
          ∙ ap (λ n. self.midnight + n) (sym w.if-time-self.false)
          ∙ since_midnight c.millis.result self.midnight (omega arith) self.early
          w.if-time-ge-MILLIS_A_DAY.false ∙ c.millis.ensures.value
    ] in
    new.writes ∙ ap moment_text sum
