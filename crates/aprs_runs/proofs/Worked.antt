-- Worked examples of what an input stands for.
use Rattle.aprs_runs.proofs.Common.{◌≡◌, ◌∙◌, ℕ, ◌<◌, true, false, List, [], ◌∷◌, ◌++◌, length, codes, None, inl, inr, refl, sym, ap, subst, arith, decimal, list_any, Answers, end_with, short_tail_cause, fault_at, is_lf, log_answers, receptions_of, Received, IsGap, millis_of, ◌∈◌, book_of_nothing, FirstFault, book_text, text_of_lines, gap_of, header_of, Three, one_text}
use Rattle.std.proofs.lemmas.Fmt.{decimal_digit}
use Rattle.aprs_io.specs.declared.input.InputEnd.{InputEnd}
use Rattle.aprs_io.specs.declared.input.InputEnd.TheVariants.{End, Read}
use Rattle.aprs_bookfile.specs.declared.fault.BookCause.TheVariants as why
use Rattle.aprs_bookfile.proofs.Standing.{no_rows}
use Rattle.aprs_runs.specs.Examples.{cut_book, text_of_no_row, unended_log}
use Rattle.aprs_runs.specs.Inputs.{GivesSet, has_book_mark}
use Rattle.aprs_runs.proofs.Faultless.{file_none}
use Rattle.aprs_runs.proofs.Beginnings.{file_begins, log_is_no_book}
use Rattle.aprs_runs.proofs.Sets.{IsLogOf, file_rows, log_is, log_none, log_of}
use Rattle.aprs_runs.proofs.ShortLogs.{short_tail}

-- ---- logs

nothing_read : log_answers [] End ≡ end_with None
nothing_read = short_tail [] End (omega arith) refl

pub empty_log : GivesSet 30 [] End []
empty_log = inr (subst (λ S. IsLogOf S [] End)
    (ap (λ (a : Answers). receptions_of a.given) nothing_read)
    (log_of [] End (ap (λ (a : Answers). a.fault) nothing_read)))

pub no_reception : (x : Received) → GivesSet 30 [] End (x ∷ []) → ⊥
no_reception x (inl p) =
    absurd (let e : false ≡ true = file_begins 30 (x ∷ []) [] End p in cc)
no_reception x (inr p) =
    subst (λ (T : List Received). x ∈ T) (ap (λ (a : Answers). receptions_of a.given) nothing_read)
    ((log_is (x ∷ []) [] End p x).0 (inl refl))

-- a log with this fault stands for no set
no_set : (gap : ℕ) (t : List ℕ) (c : InputEnd) → has_book_mark t ≡ false → length t < 8
    → list_any is_lf t ≡ false → ((fault_at 1 (short_tail_cause c t)) ≡ None → ⊥)
    → (S : List Received) → GivesSet gap t c S → ⊥
no_set gap t c is few one some S (inl p) =
    absurd (let e : true ≡ false = sym (file_begins gap S t c p) ∙ is in cc)
no_set gap t c is few one some S (inr p) =
    some (sym (ap (λ (a : Answers). a.fault) (short_tail t c few one)) ∙ log_none S t c p)

pub no_failed_read : (S : List Received) → GivesSet 30 [] Read S → ⊥
no_failed_read = no_set 30 [] Read refl (omega arith) refl (λ e. absurd cc)

pub no_unended : (S : List Received) → GivesSet 30 unended_log End S → ⊥
no_unended = no_set 30 unended_log End refl (omega arith) refl (λ e. absurd cc)

-- ---- book files

few_seconds : IsGap 5
few_seconds = (omega arith, omega arith)

-- the text of a book of no row, by its numbers
abbrev two_lines : List ℕ → List ℕ → List ℕ
two_lines gap many =
    text_of_lines ((codes "APRSBOOK 3 " ++ gap) ∷ (codes "END " ++ many) ∷ [])

empty_text : text_of_no_row ≡ book_text (Three 5) []
empty_text = sym (ap (λ gap. two_lines gap (decimal 0)) (decimal_digit 5 (omega arith))
    ∙ ap (two_lines (53 ∷ [])) (decimal_digit 0 (omega arith)))

pub empty_file : GivesSet 5 text_of_no_row End []
empty_file = inl (record {
  version = Three 5;
  rows = [];
  gap_is = refl;
  is_version = (no_rows (Three 5) few_seconds).version;
  spelled = (no_rows (Three 5) few_seconds).each;
  text_is = empty_text;
  whole = refl;
  book = book_of_nothing (millis_of 5);
})

pub no_other_gap : (S : List Received) → GivesSet 30 text_of_no_row End S → ⊥
no_other_gap S (inl p) =
    let same = (one_text (Three 5) p.version [] p.rows (no_rows (Three 5) few_seconds)
    (file_rows 30 S text_of_no_row End p) (sym empty_text ∙ p.text_is)).0 in
    let gap : 5 ≡ 30 = ap gap_of same ∙ p.gap_is in
    absurd (omega (arith, gap))
no_other_gap S (inr p) = absurd (log_is_no_book text_of_no_row End p.0 p.1 refl)

pub no_failed_file : (S : List Received) → GivesSet 5 text_of_no_row Read S → ⊥
no_failed_file S (inl p) = absurd (let e : Read ≡ End = p.whole in cc)
no_failed_file S (inr p) = absurd (log_is_no_book text_of_no_row Read p.0 p.1 refl)

cut_fault : FirstFault cut_book End (record { line = 2; cause = why.Ending })
cut_fault = record {
  lines = header_of (Three 5) ∷ [];
  rest = [];
  whole = sym (ap (λ gap. text_of_lines ((codes "APRSBOOK 3 " ++ gap) ∷ []) ++ [])
      (decimal_digit 5 (omega arith)));
  line = refl;
  fault = inr (inl (record {
    version = Three 5;
    rows = [];
    sound = no_rows (Three 5) few_seconds;
    read = refl;
    fault = inl (tt, refl);
  }));
}

pub no_cut_file : (S : List Received) → GivesSet 5 cut_book End S → ⊥
no_cut_file S (inl p) = file_none 5 S cut_book End (record { line = 2; cause = why.Ending })
    (omega arith) p cut_fault
no_cut_file S (inr p) = absurd (log_is_no_book cut_book End p.0 p.1 refl)
