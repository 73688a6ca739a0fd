-- Lemmas on the sets that an input stands for: all have one book.
use Rattle.aprs_runs.proofs.Common.{◌≡◌, ℕ, List, None, inl, inr, refl, sym, ap, ◌∙◌, subst, log_answers, receptions_of, IsLogText, Received, answers-log_text, log_text-answers, BookOf, millis_of, SameMembers, Row, book_carries, one_book, IsBookRows, gap_of, one_text}
use Rattle.aprs_io.specs.declared.input.InputEnd.{InputEnd}
use Rattle.aprs_runs.specs.Inputs.{GivesSet, IsBookFileOf}
use Rattle.aprs_runs.proofs.Beginnings.{file_begins, log_is_no_book}

-- ---- a log

-- a log without a fault, to its end: S are the receptions that its lines report
abbrev pub IsLogOf : List Received → List ℕ → InputEnd → Type 0
IsLogOf S t c = (T : List Received) × IsLogText t c T × SameMembers S T

-- one without a fault gives the receptions that its lines report
pub log_of : (t : List ℕ) (c : InputEnd) → (log_answers t c).fault ≡ None
    → IsLogOf (receptions_of (log_answers t c).given) t c
log_of t c none =
    let heard = receptions_of (log_answers t c).given in
    (heard, answers-log_text t c heard (none, refl), λ x. (λ h. h, λ h. h))

-- and of no others
pub log_is : (S : List Received) (t : List ℕ) (c : InputEnd) → IsLogOf S t c
    → SameMembers S (receptions_of (log_answers t c).given)
log_is S t c p = subst (SameMembers S) (sym (log_text-answers t c p.0 p.1).1) p.2

-- and it has no fault
pub log_none : (S : List Received) (t : List ℕ) (c : InputEnd) → IsLogOf S t c
    → (log_answers t c).fault ≡ None
log_none S t c p = (log_text-answers t c p.0 p.1).0

log_book : (gap : ℕ) (t : List ℕ) (c : InputEnd) (S T : List Received) (rows : List Row)
    → IsLogOf S t c → IsLogOf T t c → BookOf gap T rows → BookOf gap S rows
log_book gap t c S T rows p q book =
    let first = log_is S t c p in
    let second = log_is T t c q in
    book_carries gap T S rows
    (λ x. (λ h. (first x).1 ((second x).0 h), λ h. (second x).1 ((first x).0 h))) book

-- ---- a book file

-- its rows are a book's under its gap
pub file_rows : (gap : ℕ) (S : List Received) (t : List ℕ) (c : InputEnd) (p : IsBookFileOf gap S t c)
    → IsBookRows p.version p.rows
file_rows gap S t c p = record {
  version = p.is_version;
  book = subst (λ g. (T : List Received) × BookOf (millis_of g) T p.rows) (sym p.gap_is) (S, p.book);
  each = p.spelled;
}

file_book : (gap : ℕ) (t : List ℕ) (c : InputEnd) (S T : List Received) (rows : List Row)
    → IsBookFileOf gap S t c → IsBookFileOf gap T t c → BookOf (millis_of gap) T rows
    → BookOf (millis_of gap) S rows
file_book gap t c S T rows p q book =
    let same : p.rows ≡ q.rows = (one_text p.version q.version p.rows q.rows (file_rows gap S t c p)
    (file_rows gap T t c q) (sym p.text_is ∙ q.text_is)).1 in
    subst (λ (r : List Row). BookOf (millis_of gap) S r)
    (same ∙ one_book (millis_of gap) T q.rows rows q.book book) p.book

file_gap : (gap own : ℕ) (t : List ℕ) (c : InputEnd) (S T : List Received) → IsBookFileOf gap S t c
    → IsBookFileOf own T t c → IsBookFileOf gap T t c
file_gap gap own t c S T p q =
    let same = (one_text p.version q.version p.rows q.rows (file_rows gap S t c p)
    (file_rows own T t c q) (sym p.text_is ∙ q.text_is)).0 in
    subst (λ g. IsBookFileOf g T t c) (sym q.gap_is ∙ sym (ap gap_of same) ∙ p.gap_is) q

-- ---- either

-- no text is that of both
pub not_both : (gap : ℕ) (t : List ℕ) (c : InputEnd) (S T : List Received) → IsBookFileOf gap S t c
    → IsLogOf T t c → ⊥
not_both gap t c S T p q = log_is_no_book t c q.0 q.1 (file_begins gap S t c p)

-- the book of one set that an input stands for is that of each
pub set_book : (gap : ℕ) (t : List ℕ) (c : InputEnd) (S T : List Received) (rows : List Row)
    → GivesSet gap t c S → GivesSet gap t c T → BookOf (millis_of gap) T rows
    → BookOf (millis_of gap) S rows
set_book gap t c S T rows (inl p) (inl q) book = file_book gap t c S T rows p q book
set_book gap t c S T rows (inr p) (inr q) book = log_book (millis_of gap) t c S T rows p q book
set_book gap t c S T rows (inl p) (inr q) book = absurd (not_both gap t c S T p q)
set_book gap t c S T rows (inr p) (inl q) book = absurd (not_both gap t c T S q p)

-- a log stands for its receptions under any gap, and a book file has one gap
pub set_gap : (gap own : ℕ) (t : List ℕ) (c : InputEnd) (S T : List Received) → GivesSet gap t c S
    → GivesSet own t c T → GivesSet gap t c T
set_gap gap own t c S T (inl p) (inl q) = inl (file_gap gap own t c S T p q)
set_gap gap own t c S T (inr p) (inr q) = inr q
set_gap gap own t c S T (inl p) (inr q) = absurd (not_both gap t c S T p q)
set_gap gap own t c S T (inr p) (inl q) = absurd (not_both own t c T S q p)
