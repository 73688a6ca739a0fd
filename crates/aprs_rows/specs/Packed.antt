-- Rows packed in bytes, one after another.
use Rattle.std.specs.Prelude.{◌≡◌, ℕ, ◌+◌, ◌<◌, List, [], ◌∷◌, ◌++◌, length, take, drop}
use Rattle.std.specs.List.{join_with_byte, sum_by}
use Rattle.aprs_ax25.specs.FrameFault.{field_len}
use Rattle.aprs_transmissions.specs.Lists.{◌∈◌}
use Rattle.aprs_transmissions.specs.Row.{Row}
use Rattle.aprs_transmissions.specs.Sound.{IsSoundRow}
use Rattle.aprs_rows.specs.Names.{row_of_text}
use Rattle.aprs_rows.specs.Told.{HasNamesAndFrame}
use Rattle.aprs_rows.specs.declared.store.mark.Mark.{Mark}

-- The bytes of a row: the names of its receivers with commas between, the name of the greatest
-- reception's receiver, and its frame.
abbrev pub row_bytes : Row → List ℕ
row_bytes x = join_with_byte 44 x.receivers ++ (x.greatest.receiver ++ x.greatest.frame)

-- How many bytes the row of a mark has.
abbrev pub mark_size : Mark → ℕ
mark_size m = m.receivers + (m.receiver + m.frame)

-- The row of these bytes: the text of its receivers, the greatest reception's receiver, its frame.
abbrev pub mark_row : Mark → List ℕ → Row
mark_row m bytes =
    row_of_text m.first m.last (take m.receivers bytes) (take m.receiver (drop m.receivers bytes))
    (drop m.receiver (drop m.receivers bytes))

-- The bytes are those of a row that is sound by itself, as the mark says. Its receivers have names,
-- and its frame is a UI frame.
pub record IsMarked (m : Mark) (bytes : List ℕ) : Type 0 where
  pub size : length bytes ≡ mark_size m
  pub short : m.receivers < 4294967296
  pub sound : IsSoundRow (mark_row m bytes)
  pub told : HasNamesAndFrame (mark_row m bytes)
  pub info : m.info_at ≡ field_len (mark_row m bytes).greatest.frame + 2

-- The mark is that of the row.
pub record Notes (m : Mark) (x : Row) : Type 0 where
  pub fits : IsMarked m (row_bytes x)
  pub is : mark_row m (row_bytes x) ≡ x

-- The rows of marks, whose bytes lie one after another.
abbrev pub rows_of_marks : List Mark → List ℕ → List Row
rows_of_marks [] bytes = []
rows_of_marks (m ∷ ms) bytes =
    mark_row m (take (mark_size m) bytes) ∷ rows_of_marks ms (drop (mark_size m) bytes)

-- The bytes are those of the marks, and nothing more.
abbrev pub AreMarks : List Mark → List ℕ → Type 0
AreMarks [] bytes = bytes ≡ []
AreMarks (m ∷ ms) bytes =
    IsMarked m (take (mark_size m) bytes) × AreMarks ms (drop (mark_size m) bytes)

-- The names of the row's receivers, with commas between, have no more bytes than a mark can say.
abbrev pub IsShort : Row → Type 0
IsShort x = length (join_with_byte 44 x.receivers) < 4294967296

-- Each of the rows is short, as `IsShort` says.
abbrev pub AreShort : List Row → Type 0
AreShort rows = (x : Row) → x ∈ rows → IsShort x

-- How many bytes the names of a row's receivers have, with a comma after each. Without receivers it
-- is 1.
abbrev pub row_room : Row → ℕ
row_room x = length (join_with_byte 44 x.receivers) + 1

-- How many bytes the names of all rows' receivers have, with a comma after each.
abbrev pub room_of : List Row → ℕ
room_of = sum_by row_room
