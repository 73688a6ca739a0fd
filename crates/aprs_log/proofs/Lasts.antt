-- Lemmas on what the device answered last where a log is read no further.
use Rattle.aprs_log.proofs.Common.{◌≡◌, ◌≤◌, ℕ, List, [], ◌∷◌, length, Option, None, Some, Result, Ok, Err, refl, sym, ap, ◌∙◌, subst, arith, result_ok, decode_of, nat_tests, Calls, Going, Last, InputEnd, End, Read, Calls-none, nat_le}
use Rattle.aprs_io.specs.Cut.{cut_at}
use Rattle.aprs_io.specs.Input.{last_of_ending}
use Rattle.aprs_io.specs.declared.device.Counted.{Counted}
use Rattle.aprs_io.specs.declared.input.InputEnd.TheVariants.{TooLong}
use Rattle.aprs_log.specs.States.{last_in, state_after}
use Rattle.aprs_log.specs.Awaits.{last_of_cause}
use Rattle.aprs_log.specs.Fault.{log_cause_of}
use Rattle.aprs_log.specs.Line.{line_of}
use Rattle.aprs_log.specs.LogAnswers.{tail_cause}
use Rattle.aprs_log.specs.MomentReading.{moment_of}
use Rattle.aprs_log.specs.Receiver.{is_receiver}
use Rattle.aprs_log.specs.Steps.{◌otherwise◌then◌, guard}
use Rattle.aprs_log.specs.declared.fault.LineFault.{LineFault}
use Rattle.aprs_log.specs.declared.fault.LineFault.TheVariants as fault
use Rattle.aprs_log.specs.declared.fault.LogCause.{LogCause}
use Rattle.aprs_log.specs.declared.reader.ending.State.{State}
use Rattle.aprs_log.specs.declared.line.TheConstants.{MAX_LINE}

-- ---- a whole line's fault is no end of the input

abbrev wants : {X : Type 0} → Result X LineFault → Last
wants (Ok x) = Going
wants (Err f) = last_of_cause (log_cause_of f)

record WantsNone {X : Type 0} (r : Result X LineFault) : Type 0 where
  is : wants r ≡ Going

after_step : {X Y : Type 0} (o : Option X) (f : LineFault) (k : X → Result Y LineFault)
    → last_of_cause (log_cause_of f) ≡ Going → ((x : X) → WantsNone (k x))
    → WantsNone (o otherwise f then k)
after_step None f k is next = record { is = is }
after_step (Some x) f k is next = next x

whole_line : (l : List ℕ) → WantsNone (line_of l)
unfolding line_of
whole_line l =
    after_step (guard (nat_le (length l) MAX_LINE)) fault.LongLine _ refl (λ short.
    after_step (cut_at 32 l) fault.Moment _ refl (λ first.
    after_step (moment_of first.before) fault.Moment _ refl (λ moment.
    after_step (cut_at 32 first.after) fault.Receiver _ refl (λ second.
    after_step (guard (is_receiver second.before)) fault.Receiver _ refl (λ named.
    after_step (result_ok (decode_of second.after)) fault.Hex _ refl (λ bytes. record { is = refl }))))))

-- a line's fault stops a reader that asked nothing of the device
pub fault_asks_nothing : {R : Type 0} (a : Counted R) (l : List ℕ) (f : LineFault) (c : LogCause)
    → Err f ≡ line_of l → c ≡ log_cause_of f → Calls (last_of_cause c) a a
fault_asks_nothing a l f c of is =
    subst (λ last. Calls last a a)
    (sym (ap last_of_cause is ∙ ap wants of ∙ (whole_line l).is)) (Calls-none a)

-- ---- a tail that isn't too long stops it by how the input ended

tail_tells : (tail : List ℕ) (e : InputEnd) → length tail ≤ MAX_LINE
    → last_in (state_after (tail_cause tail e)) ≡ last_of_ending e
tail_tells [] End short = refl
tail_tells (b ∷ bs) End short = grind (arith, nat_tests, short)
tail_tells tail Read short = grind (arith, nat_tests, short)
tail_tells tail TooLong short = grind (arith, nat_tests, short)

pub stops_as_told : {R : Type 0} {a b : Counted R} {s : State} {o : Option LogCause}
    (tail : List ℕ) (e : InputEnd) → length tail ≤ MAX_LINE → o ≡ tail_cause tail e
    → s ≡ state_after o → Calls (last_of_ending e) a b → Calls (last_in s) a b
stops_as_told {R} {a} {b} tail e short is to p =
    subst (λ last. Calls last a b)
    (sym (ap last_in to ∙ ap (λ o. last_in (state_after o)) is ∙ tail_tells tail e short)) p
