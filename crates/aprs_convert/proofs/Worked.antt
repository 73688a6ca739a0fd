-- Worked examples of checks.
use Rattle.aprs_convert.proofs.Common.{◌≡◌, ℕ, get_or, List, [], ◌∷◌, ◌++◌, codes, None, inl, inr, refl, sym, ap, ◌∙◌, arith, ReportAll, heard_after, hi_line, unended_line, hi_read, unended_read, line_of-passed, line_of-reports}
use Rattle.std.specs.Fmt.{decimal}
use Rattle.std.proofs.lemmas.Fmt.{decimal_digit}
use Rattle.aprs_io.specs.declared.input.InputEnd.TheVariants.{End, Read}
use Rattle.aprs_log.specs.LineText.{Reports}
use Rattle.aprs_log.specs.declared.fault.Reason.TheVariants.{Unended}
use Rattle.aprs_convert.specs.Check.{Checks, IsPassedFor}
use Rattle.aprs_convert.specs.Plan.{check_plan}
use Rattle.aprs_convert.proofs.OneText.{checks_plan, one_text}
use Rattle.aprs_convert.proofs.SaidLines.{reason_of}

abbrev no_lines : List ℕ
no_lines = codes "heard 0 passed 0" ++ 10 ∷ []

-- the totals, by the digits of both numbers
abbrev totals_by : List ℕ → List ℕ → List ℕ
totals_by heard passed =
    ((codes "heard " ++ heard ++ codes " passed " ++ passed) ++ 10 ∷ []) ++ []

digits : totals_by (decimal 0) (decimal 0) ≡ no_lines
digits = ap (λ n. totals_by n (decimal 0)) (decimal_digit 0 (omega arith))
    ∙ ap (totals_by (48 ∷ [])) (decimal_digit 0 (omega arith))

pub empty : Checks None [] End no_lines
empty = (
  [],
  record { lines = []; text_is = refl; whole = refl; report = refl },
  [],
  refl,
  sym digits,
)

pub no_other_number : Checks None [] End (codes "heard 1 passed 0" ++ 10 ∷ []) → ⊥
no_other_number h =
    let same = (one_text (check_plan [] End) None None no_lines (codes "heard 1 passed 0" ++ 10 ∷ [])
    (checks_plan [] End None no_lines empty) (checks_plan [] End None _ h)).1 in
    let digit : 48 ≡ 49 = ap (λ l. get_or l 6 0) same in
    omega (arith, digit)

pub no_failed_read : (written : List ℕ) → Checks None [] Read written → ⊥
no_failed_read written h = absurd (let e : Read ≡ End = h.1.whole in cc)

-- ---- a log of three lines, of which the second is passed over

abbrev three_lines : List ℕ
three_lines = hi_line ++ 10 ∷ unended_line ++ 10 ∷ hi_line ++ 10 ∷ []

abbrev second_passed : List ℕ
second_passed = codes "line 2 passed Unended" ++ 10 ∷ codes "heard 2 passed 1" ++ 10 ∷ []

hi_reports : Reports hi_line (heard_after 0)
hi_reports = line_of-reports hi_line (heard_after 0) hi_read

unended_passed : IsPassedFor unended_line Unended
unended_passed =
    let its = line_of-passed unended_line (Unended, unended_read) in (
      its.0,
      its.1,
      its.2,
      its.3,
      reason_of unended_line its.0 its.1 its.2 Unended its.3 unended_read,
    )

one_report : ReportAll (hi_line ∷ []) (heard_after 0 ∷ [])
one_report = inr (heard_after 0, [], hi_reports, refl, refl)

-- what is written, by the digits of its three numbers
abbrev told_by : List ℕ → List ℕ → List ℕ → List ℕ
told_by line heard passed =
    ((codes "line " ++ line ++ codes " passed " ++ codes "Unended") ++ 10 ∷ [])
    ++ totals_by heard passed

three_numbers : told_by (decimal 2) (decimal 2) (decimal 1) ≡ second_passed
three_numbers = ap (λ n. told_by n (decimal 2) (decimal 1)) (decimal_digit 2 (omega arith))
    ∙ ap (λ n. told_by (50 ∷ []) n (decimal 1)) (decimal_digit 2 (omega arith))
    ∙ ap (told_by (50 ∷ []) (50 ∷ [])) (decimal_digit 1 (omega arith))

pub second : Checks None three_lines End second_passed
second = (
  heard_after 0 ∷ heard_after 0 ∷ [],
  record {
    lines = hi_line ∷ unended_line ∷ hi_line ∷ [];
    text_is = refl;
    whole = refl;
    report = inr (
      heard_after 0,
      heard_after 0 ∷ [],
      hi_reports,
      inl (line_of-passed unended_line (Unended, unended_read), one_report),
      refl,
    );
  },
  (2, Unended) ∷ [],
  inl (
    heard_after 0,
    hi_reports,
    inr (Unended, [], unended_passed, inl (heard_after 0, hi_reports, refl), refl),
  ),
  sym three_numbers,
)

pub no_other_totals : Checks None three_lines End
    (codes "line 2 passed Unended" ++ 10 ∷ codes "heard 1 passed 2" ++ 10 ∷ []) → ⊥
no_other_totals h =
    let other = codes "line 2 passed Unended" ++ 10 ∷ codes "heard 1 passed 2" ++ 10 ∷ [] in
    let same = (one_text (check_plan three_lines End) None None second_passed other
    (checks_plan three_lines End None second_passed second)
    (checks_plan three_lines End None other h)).1 in
    let digit : 50 ≡ 49 = ap (λ l. get_or l 28 0) same in
    omega (arith, digit)
