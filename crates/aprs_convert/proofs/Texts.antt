-- Lemmas on texts that are put together, and on names.
use Rattle.aprs_convert.proofs.Common.{◌≡◌, ◌≤◌, ◌++◌, ◌∙◌, ℕ, List, ap, append_assoc, length, arith, reason_name, Reason}
use Rattle.aprs_log.specs.declared.fault.Reason.TheVariants as reason

-- a text that goes on
pub goes_on : {text more : List ℕ} (before part next : List ℕ) → text ≡ before ++ part
    → more ≡ text ++ next → more ≡ before ++ (part ++ next)
goes_on before part next is goes = goes ∙ ap (λ l. l ++ next) is ∙ append_assoc before part next

pub length-reason_name : (r : Reason) → length (reason_name r) ≤ 10
length-reason_name reason.Unended = omega arith
length-reason_name reason.NoFrame = omega arith
length-reason_name reason.TwoFrames = omega arith
length-reason_name reason.BadEscape = omega arith
length-reason_name reason.TooLong = omega arith
length-reason_name reason.NotData = omega arith
length-reason_name reason.Address = omega arith
length-reason_name reason.Callsign = omega arith
length-reason_name reason.Control = omega arith
length-reason_name reason.Pid = omega arith
length-reason_name reason.NoInfo = omega arith
length-reason_name reason.LongInfo = omega arith
