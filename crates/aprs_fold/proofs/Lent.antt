-- What is lent of a book's text.
use Rattle.std.proofs.Common.{◌≡◌, ◌≤◌, ◌+◌, ◌-◌, ◌∙◌, ℕ, Bool, true, false, List, [], ◌∷◌, ◌++◌, length, map, take, drop, Option, None, Some, refl, sym, ap, append_assoc, append-nil, length-append, length-drop, arith}
use Rattle.std.proofs.Math.Seq.{take-append-add, take-append_seam}
use Rattle.std.proofs.lemmas.List.{drop-drop, drop_all, length-take-le, nil_from_length, take-append-drop, take-append-le}
use Rattle.std.proofs.lemmas.List.Concat.{flat_map-append}
use Rattle.std.proofs.lemmas.List.Elements.{All-cons, All-head, All-tail}
use Rattle.std.specs.List.{filter}
use Rattle.std.proofs.lemmas.List.Sums.{sum_by-append, sum_by-cons}
use Rattle.std.specs.Prelude.{All, count_by, cond}
use Rattle.std.specs.Option.{option_map}
use Rattle.std.specs.Io.KnownBytes.{Consumes, IsAtEnd}
use Rattle.aprs_io.specs.Cut.{Lacks, is_byte}
use Rattle.aprs_log.specs.LogText.{text_of_lines}
use Rattle.aprs_log.specs.declared.moment_form.MomentForm.{MomentForm}
use Rattle.aprs_transmissions.specs.Row.{Row, row_key}
use Rattle.aprs_bookfile.proofs.OneText.{row_lacks}
use Rattle.aprs_bookfile.specs.RowLines.{ended_by_lf}
use Rattle.aprs_bookfile.specs.Text.{IsBookRow, IsBookRows, book_text, end_line, row_line}
use Rattle.aprs_bookfile.specs.Version.{form_of, header_of}
use Rattle.aprs_bookfile.specs.declared.version.Version.{Version}
use Rattle.aprs_fold.specs.Range.{is_within, rows_of_sources}
use Rattle.aprs_fold.specs.declared.range.SourceRange.{SourceRange}
use Rattle.aprs_fold.specs.Cuts.{HasStretch}
use Rattle.aprs_fold.specs.Lent.{EndsWithLast, after_line, lent, with_last}
use Rattle.aprs_fold.specs.declared.range.book_range.BookRange.{BookRange}
use Rattle.aprs_fold.specs.declared.range.find.Stretch.{Stretch}
use Rattle.aprs_fold.proofs.Lines.{IsGiven, after_part}

-- ---- the line in hand

pub gives_line : (line : List ℕ) (given count : ℕ) (tail copied rest : List ℕ)
    → count ≤ length (drop given line) → copied ≡ take count (drop given line)
    → drop given line ++ tail ≡ take count (copied ++ rest) ++ (drop (given + count) line ++ tail)
gives_line line given count tail copied rest le is =
    let left = drop given line in
    let len : length copied ≡ count = ap length is ∙ length-take-le count left le in
    let first : take count (copied ++ rest) ≡ copied =
    ap (λ n. take n (copied ++ rest)) (sym len) ∙ take-append_seam copied rest in
    let more : drop (given + count) line ≡ drop count left = sym (drop-drop count given line) in
    ap (λ l. l ++ tail) (sym (take-append-drop count left))
    ∙ append_assoc (take count left) (drop count left) tail
    ∙ ap (λ l. l ++ (drop count left ++ tail)) (sym (first ∙ is))
    ∙ ap (λ l. take count (copied ++ rest) ++ (l ++ tail)) (sym more)

-- ---- lines of the file

count_append : (xs ys : List ℕ)
    → count_by (is_byte 10) (xs ++ ys) ≡ count_by (is_byte 10) xs + count_by (is_byte 10) ys
count_append xs ys = sum_by-append (λ x. cond (is_byte 10 x) 1 0) xs ys

take_past : (xs ys : List ℕ) (m : ℕ) → length xs ≤ m
    → take m (xs ++ ys) ≡ xs ++ take (m - length xs) ys
take_past xs ys m le = ap (λ n. take n (xs ++ ys)) (omega arith)
    ∙ take-append-add xs ys (m - length xs)

pub gives_lines : (bytes : List ℕ) (at end rows n lines : ℕ) (room tail : List ℕ)
    → IsGiven bytes at room n → n ≤ length room → n ≤ end - at
    → lines ≡ count_by (is_byte 10) (take n room)
    → with_last rows (take (end - at) (drop at bytes))
    ≡ take n room ++ with_last (rows + lines) (take (end - (at + n)) (drop (at + n) bytes))
gives_lines bytes at end rows n lines room tail given bound within count =
    let piece = take n room in
    let len : length piece ≡ n = length-take-le n room bound in
    let rest : drop (at + n) bytes ≡ given.rest =
    ap (λ k. drop (at + k) bytes) (sym len) ∙ after_part bytes at piece given.rest given.is in
    let more = take (end - (at + n)) (drop (at + n) bytes) in
    let whole : take (end - at) (drop at bytes) ≡ piece ++ more =
    ap (take (end - at)) given.is
    ∙ take_past piece given.rest (end - at) (omega (arith, len, within))
    ∙ ap (λ k. piece ++ take k given.rest) (omega (arith, len))
    ∙ ap (λ l. piece ++ take (end - (at + n)) l) (sym rest) in
    let sum : rows + count_by (is_byte 10) (piece ++ more)
    ≡ rows + lines + count_by (is_byte 10) more = omega (arith, count_append piece more, count) in
    ap (with_last rows) whole
    ∙ append_assoc piece more
    (ended_by_lf (end_line (rows + count_by (is_byte 10) (piece ++ more))))
    ∙ ap (λ k. piece ++ (more ++ ended_by_lf (end_line k))) sum

-- ---- what a reader's bytes are

pub consumes : (known now : Option (List ℕ)) (f g : List ℕ → List ℕ) (bs : List ℕ)
    → now ≡ known → ((bytes : List ℕ) → known ≡ Some bytes → f bytes ≡ bs ++ g bytes)
    → Consumes (option_map f known) (option_map g now) bs
consumes None now f g bs e h = tt
consumes (Some bytes) None f g bs e h = absurd (cc)
consumes (Some bytes) (Some own) f g bs e h =
    let same : own ≡ bytes = cc in
    h bytes refl ∙ ap (λ l. bs ++ g l) (sym same)

pub at_end : (known : Option (List ℕ)) (f : List ℕ → List ℕ)
    → ((bytes : List ℕ) → f bytes ≡ []) → IsAtEnd (option_map f known)
at_end None f h = tt
at_end (Some bytes) f h = h bytes

-- ---- a whole text

count_line : (line : List ℕ) → Lacks 10 line → count_by (is_byte 10) line ≡ 0
count_line [] h = refl
count_line (x ∷ line) h =
    let more = count_line line h.1 in
    sum_by-cons (λ y. cond (is_byte 10 y) 1 0) x line
    ∙ ap (λ b. cond b 1 0 + count_by (is_byte 10) line) h.0 ∙ omega (arith, more)

pub count_rows : (form : MomentForm) (rows : List Row) → All (IsBookRow form) rows
    → count_by (is_byte 10) (text_of_lines (map (row_line form) rows)) ≡ length rows
count_rows form [] h = refl
count_rows form (x ∷ rows) h =
    let more = count_rows form rows (All-tail (IsBookRow form) x rows h) in
    let own = count_line (row_line form x)
    (row_lacks form x (All-head (IsBookRow form) x rows h).spelled) in
    let lf : count_by (is_byte 10) (10 ∷ []) ≡ 1 = refl in
    let line = count_append (row_line form x) (10 ∷ []) in
    let both = count_append (row_line form x ++ 10 ∷ [])
    (text_of_lines (map (row_line form) rows)) in
    both ∙ omega (arith, more, own, lf, line)

pub whole_text : (v w : Version) (rows : List Row) (kept : List ℕ)
    → header_of w ≡ header_of v → kept ≡ text_of_lines (map (row_line (form_of v)) rows)
    → All (IsBookRow (form_of v)) rows
    → ended_by_lf (header_of w) ++ with_last 0 kept ≡ book_text v rows
whole_text v w rows kept header is each =
    let lines = map (row_line (form_of v)) rows in
    let count : 0 + count_by (is_byte 10) kept ≡ length rows =
    omega (arith, ap (count_by (is_byte 10)) is, count_rows (form_of v) rows each) in
    ap (λ l. ended_by_lf l ++ with_last 0 kept) header
    ∙ ap (λ n. ended_by_lf (header_of v) ++ (kept ++ ended_by_lf (end_line n))) count
    ∙ ap (λ l. ended_by_lf (header_of v) ++ (l ++ ended_by_lf (end_line (length rows)))) is
    ∙ ap (λ l. ended_by_lf (header_of v) ++ (text_of_lines lines ++ l))
    (sym (append-nil (ended_by_lf (end_line (length rows)))))
    ∙ ap (λ l. ended_by_lf (header_of v) ++ l)
    (sym (flat_map-append ended_by_lf lines (end_line (length rows) ∷ [])))

pub kept_each : (P : Row → Type 0) (p : Row → Bool) (rows : List Row) → All P rows
    → All P (filter p rows)
kept_each P p [] h = h
kept_each P p (x ∷ rows) h = by (p x)
    (kept_each P p rows (All-tail P x rows h)) where
      by : (b : Bool) → All P (filter p rows) → All P (cond b (x ∷ filter p rows) (filter p rows))
      by true more = All-cons P x (filter p rows) (All-head P x rows h) more
      by false more = more

-- ---- a reader

pub lines_left : (line : List ℕ) (given : ℕ) (last : Bool) (rows now at end n : ℕ)
    (bytes room tail : List ℕ) → length line ≤ given → last ≡ false → IsGiven bytes at room n
    → n ≤ length room → n ≤ end - at
    → now ≡ rows + count_by (is_byte 10) (take n (room ++ tail))
    → drop given line ++ after_line last rows at end bytes
    ≡ take n (room ++ tail) ++ (drop given line ++ after_line last now (at + n) end bytes)
lines_left line given last rows now at end n bytes room tail le more is bound within count =
    let piece : take n (room ++ tail) ≡ take n room = take-append-le n room tail bound in
    let none : drop given line ≡ [] = drop_all given line le in
    let lines = count_by (is_byte 10) (take n room) in
    let sum : now ≡ rows + lines = count ∙ ap (λ l. rows + count_by (is_byte 10) l) piece in
    ap (λ l. l ++ after_line last rows at end bytes) none
    ∙ ap (λ b. after_line b rows at end bytes) more
    ∙ gives_lines bytes at end rows n lines room tail is bound within refl
    ∙ ap (λ k. take n room ++ after_line false k (at + n) end bytes) (sym sum)
    ∙ ap (λ b. take n room ++ after_line b now (at + n) end bytes) (sym more)
    ∙ ap (λ l. take n room ++ (l ++ after_line last now (at + n) end bytes)) (sym none)
    ∙ ap (λ l. l ++ (drop given line ++ after_line last now (at + n) end bytes)) (sym piece)

pub lent_is : {R : Type 0} (bytes_of : R → Option (List ℕ)) (range : SourceRange)
    (r : BookRange R) (source : R) (s : Stretch) (text : List ℕ)
    → r ≡ record {
      source = source;
      line = r.line;
      given = 0;
      is_last = false;
      at = s.from;
      end = s.until;
      rows = 0;
    } → r.line.items ≡ ended_by_lf (header_of s.version) → bytes_of source ≡ Some text
    → HasStretch range text s → (v : Version) (rows : List Row) → IsBookRows v rows
    → text ≡ book_text v rows
    → lent bytes_of r ≡ Some (book_text v (rows_of_sources range rows))
lent_is bytes_of range r source s text is line known has v rows book text_is =
    let own = has v rows book text_is in
    let kept = take (s.until - s.from) (drop s.from text) in
    ap (lent bytes_of) is
    ∙ ap (option_map (λ bytes. r.line.items ++ after_line false 0 s.from s.until bytes)) known
    ∙ ap (λ l. Some (l ++ with_last 0 kept)) line
    ∙ ap (λ l. Some l) (whole_text v s.version (rows_of_sources range rows) kept own.0 own.1
    (kept_each (IsBookRow (form_of v)) (λ x. is_within range (row_key x).source) rows book.each))

-- ---- the end of a file

pub ends_tail : (tail : List ℕ) (lf n : ℕ) {rest : List ℕ} → rest ≡ drop lf tail
    → rest ≡ 10 ∷ ended_by_lf (end_line n) → EndsWithLast tail
ends_tail tail lf n whole is = (
  take lf tail,
  n,
  sym (take-append-drop lf tail) ∙ ap (λ l. take lf tail ++ l) (sym whole ∙ is),
)

pub ends_whole : (bytes : List ℕ) (size at n : ℕ) (room : List ℕ) → IsGiven bytes at room n
    → n ≤ length room → size ≡ length bytes → at ≤ size → size - at ≡ n
    → EndsWithLast (take n room) → EndsWithLast bytes
ends_whole bytes size at n room given bound is le count ends =
    let piece = take n room in
    let sizes : length (drop at bytes) ≡ length piece + length given.rest =
    ap length given.is ∙ length-append piece given.rest in
    let none : given.rest ≡ [] = nil_from_length given.rest
    (omega (arith, sizes, length-drop at bytes, length-take-le n room bound)) in
    let tail : drop at bytes ≡ piece = given.is ∙ ap (λ l. piece ++ l) none ∙ append-nil piece in (
      take at bytes ++ ends.0,
      ends.1,
      sym (take-append-drop at bytes) ∙ ap (λ l. take at bytes ++ l) (tail ∙ ends.2)
          ∙ sym (append_assoc (take at bytes) ends.0 (10 ∷ ended_by_lf (end_line ends.1))),
    )
