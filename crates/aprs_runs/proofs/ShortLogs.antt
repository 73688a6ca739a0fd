-- Lemmas on logs of fewer bytes than a line must have.
use Rattle.aprs_runs.proofs.Common.{◌≡◌, ◌==◌, ℕ, ◌+◌, ◌<◌, ◌≤◌, Bool, true, false, not, ◌||◌, cond, List, [], ◌∷◌, length, Option, Some, ap, ◌∙◌, arith, list_any, position_or_len, nat_tests, end_with, short_tail_cause, fault_at, is_lf, log_answers, tail_cause}
use Rattle.aprs_log.specs.declared.InputEnd.{InputEnd}
use Rattle.aprs_log.specs.declared.InputEnd.TheVariants as ending
use Rattle.aprs_log.specs.declared.fault.LogCause.{LogCause}
use Rattle.aprs_log.specs.declared.fault.LogCause.TheVariants as cause
use Rattle.aprs_log.proofs.LogAnswers.{answers_from-tail}

-- one without an LF is a tail
tail_step : (b any : Bool) (n k : ℕ) → (b || any) ≡ false → (any ≡ false → n ≤ k)
    → n + 1 ≤ cond (not b) (1 + k) 0
tail_step true any n k e h = absurd cc
tail_step false any n k e h = omega (arith, h e)

no_line : (t : List ℕ) → list_any is_lf t ≡ false → length t ≤ position_or_len is_lf t
no_line [] e = omega arith
no_line (x ∷ t) e = let less = tail_step (is_lf x) (list_any is_lf t) (length t)
    (position_or_len is_lf t) e (no_line t) in omega (arith, less)

pub short_tail : (t : List ℕ) (c : InputEnd) → length t < 8 → list_any is_lf t ≡ false
    → log_answers t c ≡ end_with (fault_at 1 (short_tail_cause c t))
short_tail t c h none =
    answers_from-tail 1 t c (no_line t none) ∙ ap
    (λ (k : Option LogCause). end_with (fault_at 1 k)) fits
  where
    fits : tail_cause t c ≡ short_tail_cause c t
    fits = grind (arith, nat_tests)

-- one that ends in a line
pub short_unended : (t : List ℕ) → length t < 8 → list_any is_lf t ≡ false → (length t == 0) ≡ false
    → log_answers t ending.End ≡ end_with (fault_at 1 (Some cause.NoNewline))
short_unended [] h none some = absurd cc
short_unended (x ∷ t) h none some = short_tail (x ∷ t) ending.End h none
