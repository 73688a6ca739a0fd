-- The rows of a range are those between two cuts.
use Rattle.std.proofs.Common.{◌≡◌, ◌≤◌, ◌<◌, ◌^◌, ◌+◌, ◌-◌, ◌∙◌, ℕ, Bool, true, false, cond, List, [], ◌∷◌, ◌++◌, length, map, take, drop, None, Some, inl, inr, refl, sym, ap, subst, append_assoc, append-nil, length-append, arith}
use Rattle.std.proofs.Math.Seq.{take-append_seam}
use Rattle.std.proofs.lemmas.List.{map-append}
use Rattle.std.proofs.lemmas.List.Concat.{flat_map-append}
use Rattle.std.proofs.lemmas.List.Elements.{filter-append}
use Rattle.std.specs.Prelude.{not, ◌&&◌}
use Rattle.std.specs.List.{filter}
use Rattle.std.specs.Ordering.{is_gt, is_le}
use Rattle.std.specs.declared.cmp.Ordering.{Ordering}
use Rattle.std.specs.declared.cmp.Ordering.TheVariants.{Less, Equal, Greater}
use Rattle.aprs_ax25.specs.Callsign.{Call, call_cmp}
use Rattle.aprs_log.specs.LogText.{text_of_lines}
use Rattle.aprs_log.specs.declared.moment_form.MomentForm.{MomentForm}
use Rattle.aprs_transmissions.proofs.Lists.{in_left, in_right}
use Rattle.aprs_transmissions.specs.Lists.{◌∈◌}
use Rattle.aprs_transmissions.specs.Row.{Row, row_key}
use Rattle.aprs_bookfile.proofs.Versions.{header_lacks}
use Rattle.aprs_bookfile.specs.Text.{IsBookRows, book_text, end_line, row_line}
use Rattle.aprs_bookfile.specs.Version.{form_of, header_of}
use Rattle.aprs_bookfile.specs.declared.version.Version.{Version}
use Rattle.aprs_fold.specs.Range.{is_from, is_until, is_within, rows_of_sources}
use Rattle.aprs_fold.specs.declared.range.SourceRange.{SourceRange}
use Rattle.aprs_fold.specs.Cuts.{CutsRows, HasStretch, IsCutAt, RowsStand}
use Rattle.aprs_fold.specs.Lines.{ReadsLine}
use Rattle.aprs_fold.specs.declared.range.find.Stretch.{Stretch}
use Rattle.aprs_fold.proofs.Lines.{after_part}
use Rattle.aprs_fold.proofs.Places.{line_first, same_line}
use Rattle.aprs_fold.proofs.Rows.{before_other}

-- ---- filters

none_kept : {X : Type 0} (p : X → Bool) (xs : List X) → ((x : X) → x ∈ xs → p x ≡ false)
    → filter p xs ≡ []
none_kept p [] h = refl
none_kept p (x ∷ xs) h =
    ap (λ b. cond b (x ∷ filter p xs) (filter p xs)) (h x (inl refl))
    ∙ none_kept p xs (λ y k. h y (inr k))

all_kept : {X : Type 0} (p : X → Bool) (xs : List X) → ((x : X) → x ∈ xs → p x ≡ true)
    → filter p xs ≡ xs
all_kept p [] h = refl
all_kept p (x ∷ xs) h =
    ap (λ b. cond b (x ∷ filter p xs) (filter p xs)) (h x (inl refl))
    ∙ ap (λ l. x ∷ l) (all_kept p xs (λ y k. h y (inr k)))

from_not : (b : Bool) → not b ≡ true → b ≡ false
from_not true h = absurd (cc)
from_not false h = refl

to_not : (b : Bool) → not b ≡ false → b ≡ true
to_not true h = refl
to_not false h = absurd (cc)

-- ---- cuts by the first source of a range

not_le : (o : Ordering) → is_gt o ≡ not (is_le o)
not_le Less = refl
not_le Equal = refl
not_le Greater = refl

not_from : (first call : Call) → is_until (Some first) call ≡ not (is_from (Some first) call)
not_from first call = before_other call first ∙ not_le (call_cmp first call)

pub cuts_from : (first : Call) (bytes : List ℕ) (start at : ℕ)
    → CutsRows (is_until (Some first)) bytes start at
    → CutsRows (λ call. not (is_from (Some first) call)) bytes start at
cuts_from first bytes start at h form rows n stand = same (h form rows n stand) where
  same : IsCutAt (is_until (Some first)) form rows n bytes start at
      → IsCutAt (λ call. not (is_from (Some first) call)) form rows n bytes start at
  same c = record {
    first = c.first;
    rest = c.rest;
    whole = c.whole;
    place = c.place;
    before = λ x m. sym (not_from first (row_key x).source) ∙ c.before x m;
    after = λ x m. sym (not_from first (row_key x).source) ∙ c.after x m;
    stand = c.stand;
  }

pub cuts_start : (bytes : List ℕ) (start : ℕ)
    → CutsRows (λ call. not (is_from None call)) bytes start start
cuts_start bytes start form rows n stand = record {
  first = [];
  rest = rows;
  whole = refl;
  place = omega arith;
  before = λ x m. absurd m;
  after = λ x m. refl;
  stand = stand;
}

-- ---- lines

lines_few : (lines : List (List ℕ)) → length lines ≤ length (text_of_lines lines)
lines_few [] = omega arith
lines_few (l ∷ lines) =
    let more = lines_few lines in
    let size = ap length (line_first l lines) ∙ length-append l (10 ∷ text_of_lines lines) in
    omega (arith, more, size)

rows_few : (form : MomentForm) (rows : List Row) (n : ℕ)
    → length rows ≤ length (map (row_line form) rows ++ end_line n ∷ [])
rows_few form [] n = omega arith
rows_few form (x ∷ rows) n = let more = rows_few form rows n in omega (arith, more)

-- ---- the stretch

module _ (range : SourceRange) (bytes : List ℕ) (s : Stretch) (line : List ℕ) (start : ℕ)
    (reads : ReadsLine bytes 0 line start) (header : line ≡ header_of s.version)
    (few : length bytes < 2 ^ 64)
    (from : CutsRows (λ call. not (is_from range.from call)) bytes start s.from)
    (until : CutsRows (is_until range.until) bytes s.from s.until)
    (v : Version) (rows : List Row) (book : IsBookRows v rows) (text : bytes ≡ book_text v rows)
  where
    abbrev rest_text : List ℕ
    rest_text = text_of_lines (map (row_line (form_of v)) rows ++ end_line (length rows) ∷ [])

    first_line : (line ≡ header_of v) × (reads.0.after ≡ rest_text)
    first_line = same_line line reads.0.after (header_of v) rest_text reads.0.lacks
        (header_lacks v book.version) (sym reads.0.is ∙ text
        ∙ line_first (header_of v) (map (row_line (form_of v)) rows ++ end_line (length rows) ∷ []))

    stand_start : drop start bytes ≡ rest_text
    stand_start =
        ap (λ n. drop n bytes) (reads.1 ∙ far)
        ∙ after_part bytes 0 (line ++ 10 ∷ []) reads.0.after
        (reads.0.is ∙ sym (append_assoc line (10 ∷ []) reads.0.after)) ∙ first_line.1 where
          far : 0 + length line + 1 ≡ 0 + length (line ++ 10 ∷ [])
          far = omega (arith, length-append line (10 ∷ []))

    sizes : length bytes ≡ length (header_of v) + (length rest_text + 1)
    sizes = ap length (text ∙ line_first (header_of v)
        (map (row_line (form_of v)) rows ++ end_line (length rows) ∷ []))
        ∙ length-append (header_of v) (10 ∷ rest_text) ∙ omega arith

    all_stand : RowsStand (form_of v) rows (length rows) bytes start
    all_stand = record {
      stand = stand_start;
      each = book.each;
      ascending = book.book.1.ascending;
      small = (let a = rows_few (form_of v) rows (length rows) in
          let b = lines_few (map (row_line (form_of v)) rows ++ end_line (length rows) ∷ []) in
          omega (arith, a, b, sizes, few));
    }

    module _ (a : IsCutAt (λ call. not (is_from range.from call)) (form_of v) rows (length rows)
        bytes start s.from)
        (b : IsCutAt (is_until range.until) (form_of v) a.rest (length rows) bytes s.from s.until)
      where
        rest_from : (x : Row) → x ∈ a.rest → is_from range.from (row_key x).source ≡ true
        rest_from x m = to_not (is_from range.from (row_key x).source) (a.after x m)

        below : filter (λ x. is_within range (row_key x).source) a.first ≡ []
        below = none_kept (λ x. is_within range (row_key x).source) a.first (λ x m.
            ap (λ t. t && is_until range.until (row_key x).source)
            (from_not (is_from range.from (row_key x).source) (a.before x m)))

        within : filter (λ x. is_within range (row_key x).source) b.first ≡ b.first
        within = all_kept (λ x. is_within range (row_key x).source) b.first (λ x m.
            ap (λ t. t && is_until range.until (row_key x).source)
            (rest_from x (subst (λ l. x ∈ l) (sym b.whole) (in_left x b.first b.rest m)))
            ∙ b.before x m)

        above : filter (λ x. is_within range (row_key x).source) b.rest ≡ []
        above = none_kept (λ x. is_within range (row_key x).source) b.rest (λ x m.
            ap (λ t. t && is_until range.until (row_key x).source)
            (rest_from x (subst (λ l. x ∈ l) (sym b.whole) (in_right x b.first b.rest m)))
            ∙ b.after x m)

        rows_are : rows_of_sources range rows ≡ b.first
        rows_are =
            ap (rows_of_sources range) (a.whole ∙ ap (λ l. a.first ++ l) b.whole)
            ∙ filter-append (λ x. is_within range (row_key x).source) a.first (b.first ++ b.rest)
            ∙ ap (λ l. l ++ rows_of_sources range (b.first ++ b.rest)) below
            ∙ filter-append (λ x. is_within range (row_key x).source) b.first b.rest
            ∙ ap (λ l. l ++ rows_of_sources range b.rest) within
            ∙ ap (λ l. b.first ++ l) above ∙ append-nil b.first

        abbrev kept : List ℕ
        kept = text_of_lines (map (row_line (form_of v)) b.first)

        abbrev last : List (List ℕ)
        last = end_line (length rows) ∷ []

        stretch_first : drop s.from bytes
            ≡ kept ++ text_of_lines (map (row_line (form_of v)) b.rest ++ last)
        stretch_first = a.stand.stand
            ∙ ap (λ l. text_of_lines (map (row_line (form_of v)) l ++ last)) b.whole
            ∙ ap (λ l. text_of_lines (l ++ last)) (map-append (row_line (form_of v)) b.first b.rest)
            ∙ ap text_of_lines (append_assoc (map (row_line (form_of v)) b.first)
            (map (row_line (form_of v)) b.rest) last)
            ∙ flat_map-append (λ l. l ++ 10 ∷ []) (map (row_line (form_of v)) b.first)
            (map (row_line (form_of v)) b.rest ++ last)

        size : s.until - s.from ≡ length kept
        size = omega (arith, b.place)

        stretch_is : take (s.until - s.from) (drop s.from bytes)
            ≡ text_of_lines (map (row_line (form_of v)) (rows_of_sources range rows))
        stretch_is = ap (λ n. take n (drop s.from bytes)) size
            ∙ ap (take (length kept)) stretch_first
            ∙ take-append_seam kept (text_of_lines (map (row_line (form_of v)) b.rest ++ last))
            ∙ ap (λ l. text_of_lines (map (row_line (form_of v)) l)) (sym rows_are)

    has : (header_of s.version ≡ header_of v)
        × (take (s.until - s.from) (drop s.from bytes)
        ≡ text_of_lines (map (row_line (form_of v)) (rows_of_sources range rows)))
    has =
        let a = from (form_of v) rows (length rows) all_stand in
        let b = until (form_of v) a.rest (length rows) a.stand in
        (sym header ∙ first_line.0, stretch_is a b)

pub has_stretch : (range : SourceRange) (bytes : List ℕ) (s : Stretch) (line : List ℕ)
    (start : ℕ) → ReadsLine bytes 0 line start → line ≡ header_of s.version
    → length bytes < 2 ^ 64
    → CutsRows (λ call. not (is_from range.from call)) bytes start s.from
    → CutsRows (is_until range.until) bytes s.from s.until → HasStretch range bytes s
has_stretch range bytes s line start reads header few from until v rows book text =
    has range bytes s line start reads header few from until v rows book text
