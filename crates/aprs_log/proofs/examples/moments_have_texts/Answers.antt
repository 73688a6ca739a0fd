use Rattle.aprs_log.proofs.Common.{◌≡◌, ℕ, arith, ◌∙◌, codes, Some, None, sym}
use Rattle.aprs_log.specs.Examples.{noon}
use Rattle.aprs_log.proofs.Lines.{moment_read}
use Rattle.aprs_log.proofs.Moments.{moment_of-text, text-IsTextOf}
use Rattle.aprs_log.proofs.Worked.{half_read, leap_read, noon_read}
use Rattle.aprs_log.proofs.examples.moments_have_texts.Goals as goal

value_of : (m n : ℕ) → Some m ≡ Some n → m ≡ n
value_of m n e = cc

pub returns : goal.returns
returns c = record {
  seconds = text-IsTextOf _ noon (moment_of-text noon _ noon_read);
  millis =
      text-IsTextOf _ (codes "2024-05-01T12:00:00.500Z") (moment_of-text _ _ half_read);
  misses_half = λ h.
      let same = value_of 1714564800000 1714564800500
      (sym noon_read ∙ moment_read 1714564800500 noon h) in omega (arith, same);
  misses_leap = λ m h.
      let same : Some m ≡ None
      = sym (moment_read m (codes "2024-05-01T12:00:60.000Z") h) ∙ leap_read in absurd cc;
}
