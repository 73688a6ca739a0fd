-- A text begins as that of a book, or as a log does.
use Rattle.aprs_runs.proofs.Common.{◌≡◌, ◌∙◌, ℕ, get_or, true, false, List, [], ◌∷◌, ◌++◌, drop, codes, inl, inr, refl, sym, ap, arith, Decides-eqb, starts_is, IsLogText, ReportAll, text_of_lines, Received, Row, book_text, Version, One, Two, Three}
use Rattle.aprs_io.specs.declared.input.InputEnd.{InputEnd}
use Rattle.aprs_log.proofs.Lines.{HasFields}
use Rattle.aprs_log.proofs.Moments.{IsTextOf-text}
use Rattle.aprs_runs.specs.Inputs.{IsBookFileOf, has_book_mark}

abbrev pub mark : List ℕ
mark = codes "APRSBOOK"

pub begins : (t : List ℕ) → has_book_mark t ≡ true → t ≡ mark ++ drop 8 t
begins t e = (starts_is Decides-eqb t mark (has_book_mark t) refl).0 e

pub is_book : (t rest : List ℕ) → t ≡ mark ++ rest → has_book_mark t ≡ true
is_book t rest e = (starts_is Decides-eqb t mark (has_book_mark t) refl).1 rest e

-- ---- a book file

pub book_begins : (v : Version) (rows : List Row) → has_book_mark (book_text v rows) ≡ true
book_begins One rows = is_book (book_text One rows) (drop 8 (book_text One rows)) refl
book_begins Two rows = is_book (book_text Two rows) (drop 8 (book_text Two rows)) refl
book_begins (Three gap) rows = is_book (book_text (Three gap) rows)
    (drop 8 (book_text (Three gap) rows)) refl

pub file_begins : (gap : ℕ) (S : List Received) (t : List ℕ) (c : InputEnd) → IsBookFileOf gap S t c
    → has_book_mark t ≡ true
file_begins gap S t c p = ap has_book_mark p.text_is ∙ book_begins p.version p.rows

-- ---- a log

-- after the digits of a year comes a hyphen
hyphen : (line : List ℕ) → HasFields line → (end more : List ℕ)
    → get_or ((line ++ end) ++ more) 4 0 ≡ 45
hyphen line h end more =
    let is = h.3 in
    let text = IsTextOf-text h.0 is.fields.1.0 is.fields.1.1 in
    let fields = 32 ∷ (h.1 ++ 32 ∷ is.digits) in
    ap (λ l. get_or ((l ++ end) ++ more) 4 0) is.fields.1.2
    ∙ ap (λ t. get_or (((t ++ fields) ++ end) ++ more) 4 0) text.1.spelled

first_line : (line : List ℕ) (lines : List (List ℕ)) (S : List Received) → ReportAll (line ∷ lines) S
    → HasFields line
first_line line lines S (inl passed) = (passed.0.0, passed.0.1, passed.0.2, passed.0.3)
first_line line lines S (inr heard) =
    (heard.0.moment, heard.0.receiver, heard.2.0, heard.2.1)

-- so it begins otherwise
log_begins : (lines : List (List ℕ)) (S : List Received) → ReportAll lines S
    → has_book_mark (text_of_lines lines) ≡ true → ⊥
log_begins [] S all e = let bad : false ≡ true = e in absurd cc
log_begins (line ∷ lines) S all e =
    let other : get_or ((line ++ 10 ∷ []) ++ text_of_lines lines) 4 0 ≡ 66 =
    ap (λ t. get_or t 4 0) (begins (text_of_lines (line ∷ lines)) e) in
    let own = hyphen line (first_line line lines S all) (10 ∷ []) (text_of_lines lines) in
    omega (arith, other, own)

pub log_is_no_book : (t : List ℕ) (c : InputEnd) (S : List Received) → IsLogText t c S
    → has_book_mark t ≡ true → ⊥
log_is_no_book t c S p e = log_begins p.lines S p.report (ap has_book_mark (sym p.text_is) ∙ e)
