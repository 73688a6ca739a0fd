-- Which rows a fold of a range of sources writes.
use Rattle.std.specs.Prelude.{◌≡◌, Bool, true, ◌&&◌, ℕ, List, ◌++◌, Option, None, Some}
use Rattle.std.specs.List.{filter}
use Rattle.std.specs.Ordering.{is_le, is_lt}
use Rattle.aprs_ax25.specs.Callsign.{Call, call_cmp}
use Rattle.aprs_transmissions.specs.BookValue.{BookValue}
use Rattle.aprs_transmissions.specs.Lists.{Ordered}
use Rattle.aprs_transmissions.specs.Order.{IsBelow}
use Rattle.aprs_transmissions.specs.Row.{Row, row_cmp, row_key}
use Rattle.aprs_fold.specs.Inputs.{book_of_all}
use Rattle.aprs_fold.specs.declared.range.SourceRange.{SourceRange}

-- The source is the first one of a range or comes after it. True where the range has no first one.
abbrev pub is_from : Option Call → Call → Bool
is_from None source = true
is_from (Some first) source = is_le (call_cmp first source)

-- The source comes before the end of a range. True where the range has no end.
abbrev pub is_until : Option Call → Call → Bool
is_until None source = true
is_until (Some end) source = is_lt (call_cmp source end)

-- The source is within the range.
abbrev pub is_within : SourceRange → Call → Bool
is_within range source = is_from range.from source && is_until range.until source

-- The range of all sources.
abbrev pub all_sources : SourceRange
all_sources = record { from = None; until = None }

-- Those of the rows whose sources are within the range.
abbrev pub rows_of_sources : SourceRange → List Row → List Row
rows_of_sources range = filter (λ x. is_within range (row_key x).source)

-- The book of all these rows, of which it has those of the range's sources.
abbrev pub book_of_sources : SourceRange → ℕ → List (List Row) → BookValue
book_of_sources range gap rows = record {
  gap = gap;
  rows = rows_of_sources range (book_of_all gap rows).rows;
}

-- ---- laws

-- The range of all sources has all rows.
abbrev pub AllAreWithin : Type 0
AllAreWithin = (rows : List Row) → rows_of_sources all_sources rows ≡ rows

-- A range is cut at a source within it, and rows ascend. Then the rows of the part before this
-- source, followed by those of the part from it on, are the rows of the range.
abbrev pub PartsAreWhole : Type 0
PartsAreWhole = (range : SourceRange) (cut : Call) (rows : List Row) → is_within range cut ≡ true
    → Ordered (IsBelow row_cmp) rows
    → rows_of_sources (record range { until = Some cut }) rows
    ++ rows_of_sources (record range { from = Some cut }) rows ≡ rows_of_sources range rows
