-- Lemmas on worked examples: what reading makes of their texts.
use Rattle.aprs_log.proofs.Common.{◌≡◌, ℕ, Bool, true, false, not, List, [], ◌∷◌, ◌++◌, codes, Some, None, Ok, Err, refl, list_all, is_byte, Lacks}
use Rattle.jiff_core.specs.Calendar.{day_count, days_from_civil, days_of_months, days_of_years}
use Rattle.aprs_io.specs.Cut.{cut_at}
use Rattle.aprs_kiss.specs.Judgement.{judgement_of}
use Rattle.aprs_kiss.specs.Stream.{judgements_of, pieces_of, rest_of}
use Rattle.aprs_kiss.specs.Unspelling.{spelled_bytes}
use Rattle.hex.specs.Hex.{decode_pairs}
use Rattle.aprs_log.specs.Examples.{heard_after, hi_digits, hi_line, leap_line, line_by, noon, unended_line}
use Rattle.aprs_log.specs.Line.{frame_in, line_of}
use Rattle.aprs_log.specs.LogText.{HasNoLf}
use Rattle.aprs_log.specs.MomentReading.{moment_in, moment_of}
use Rattle.aprs_log.specs.declared.fault.LineFault.TheVariants as fault
use Rattle.aprs_log.specs.declared.fault.Reason.TheVariants as reason
use Rattle.aprs_log.specs.declared.line.Line.TheVariants as line
use Rattle.aprs_log.proofs.Lines.{both}
use Rattle.aprs_log.proofs.LineTexts.{line_of-is}
use Rattle.aprs_log.proofs.LogTexts.{lacks-none, line_lacks}

pub noon_read : moment_of noon ≡ Some 1714564800000
unfolding moment_in days_from_civil day_count days_of_years days_of_months
noon_read = refl

pub half_read : moment_of (codes "2024-05-01T12:00:00.500Z") ≡ Some 1714564800500
unfolding moment_in days_from_civil day_count days_of_years days_of_months
half_read = refl

pub leap_read : moment_of (codes "2024-05-01T12:00:60.000Z") ≡ None
unfolding moment_in
leap_read = refl

pub hi_read : line_of hi_line ≡ Ok (line.Heard (heard_after 0))
unfolding line_of cut_at moment_in days_from_civil day_count days_of_years days_of_months decode_pairs frame_in rest_of judgements_of pieces_of judgement_of spelled_bytes
hi_read = refl

pub half_line_read : line_of (line_by (codes "2024-05-01T12:00:00.500Z") hi_digits)
    ≡ Ok (line.Heard (heard_after 500))
unfolding line_of cut_at moment_in days_from_civil day_count days_of_years days_of_months decode_pairs frame_in rest_of judgements_of pieces_of judgement_of spelled_bytes
half_line_read = refl

pub unended_read : line_of unended_line ≡ Ok (line.Passed reason.Unended)
unfolding line_of cut_at moment_in decode_pairs frame_in rest_of
unended_read = refl

pub empty_read : line_of (line_by noon []) ≡ Ok (line.Passed reason.NoFrame)
unfolding line_of cut_at moment_in decode_pairs frame_in rest_of judgements_of pieces_of
empty_read = refl

pub leap_line_read : line_of leap_line ≡ Err fault.Moment
unfolding line_of cut_at moment_in
leap_line_read = refl

pub later_read : line_of (leap_line ++ codes "0") ≡ Err fault.Moment
unfolding line_of cut_at moment_in
later_read = refl

pub unnamed_read : line_of (noon ++ codes " RX.1 c0") ≡ Err fault.Receiver
unfolding line_of cut_at moment_in
unnamed_read = refl

pub odd_read : line_of (line_by noon (codes "c")) ≡ Err fault.Hex
unfolding line_of cut_at moment_in
odd_read = refl

-- ---- lines without an LF

lacks_by : (b : ℕ) (t : Bool) → not t ≡ true → t ≡ false
lacks_by b true e = let bad : false ≡ true = e in absurd cc
lacks_by b false e = refl

lacks_all : (l : List ℕ) → list_all (λ b. not (is_byte 10 b)) l ≡ true → Lacks 10 l
lacks_all [] e = tt
lacks_all (b ∷ l) e =
    let parts = both (not (is_byte 10 b)) (list_all (λ b. not (is_byte 10 b)) l) e in
    (lacks_by b (is_byte 10 b) parts.0, lacks_all l parts.1)

leap_lacks : Lacks 10 leap_line
leap_lacks = lacks_all leap_line refl

pub leap_has_no_lf : HasNoLf leap_line
leap_has_no_lf = lacks-none leap_line leap_lacks

pub hi_has_no_lf : HasNoLf hi_line
hi_has_no_lf = lacks-none hi_line (line_lacks hi_line (line_of-is hi_line _ hi_read))
