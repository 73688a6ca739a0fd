-- The readers' steps as functions of byte lists. Public clauses name `reading_of` alone, of which a
-- law says that it is the one reading.
use Rattle.std.specs.Prelude.{ℕ, ℤ, ◌+◌, ◌*◌, ◌-◌, ◌^◌, Bool, true, false, ◌&&◌, ◌||◌, nat_le}
use Rattle.std.specs.Prelude.{nat_lt, ◌==◌, if◌then◌else◌, List, [], ◌∷◌, length, take, drop}
use Rattle.std.specs.Prelude.{slice_index, Option, Some, None, unwrap_or, codes}
use Rattle.std.specs.List.{list_all, position as first_place}
use Rattle.aprs_report.specs.declared.stamp.Stamp.{Stamp}
use Rattle.aprs_report.specs.declared.symbol.Symbol.{Symbol}
use Rattle.aprs_report.specs.declared.place.coordinate.Axis.{Axis}
use Rattle.aprs_report.specs.declared.place.coordinate.Axis.TheVariants.{Latitude, Longitude}
use Rattle.aprs_report.specs.declared.place.Place.{Place}
use Rattle.aprs_report.specs.declared.place.Place.TheVariants.{Plain, Base91}
use Rattle.aprs_report.specs.Bytes.{is_digit, is_capital, is_printable, is_space, is_line_end}
use Rattle.aprs_report.specs.Numeral.{is_digit_of, number}
use Rattle.aprs_report.specs.Stamp.{is_time_mark}
use Rattle.aprs_report.specs.Symbol.{is_table, is_code}
use Rattle.aprs_report.specs.Compressed.{greatest_base91}
use Rattle.aprs_report.specs.Coordinate.{per_degree, limit, letter, with_sign, is_blank}
use Rattle.aprs_report.specs.Object.{is_item_mark}
use Rattle.aprs_report.specs.Message.{is_id}
use Rattle.aprs_report.specs.Reading.{Value, position, object, item, message, ack, rej, status, raw}

-- A step and the next one, which takes its value. Where the first has none, there is none.
infixl 10 ◌>>=◌
abbrev pub ◌>>=◌ : {A B : Type 0} → Option A → (A → Option B) → Option B
(Some x) >>= f = f x
None >>= f = None

-- The value, or None where the test fails.
abbrev pub value_when : {A : Type 0} → Bool → A → Option A
value_when b x = if b then Some x else None

-- The first n bytes and the rest, or None where there are fewer.
abbrev pub chunk_of : ℕ → List ℕ → Option (List ℕ × List ℕ)
chunk_of n bytes = if nat_lt (length bytes) n then None else Some (take n bytes, drop n bytes)

-- The first byte and the rest, if the byte passes the test.
abbrev pub byte_where : (ℕ → Bool) → List ℕ → Option (ℕ × List ℕ)
byte_where p [] = None
byte_where p (b ∷ rest) = value_when (p b) (b, rest)

-- A byte and those after it, or nothing where there are none after it and it passes the test.
abbrev pub byte_before : (ℕ → Bool) → ℕ → List ℕ → List ℕ
byte_before p b [] = if p b then [] else b ∷ []
byte_before p b (x ∷ xs) = b ∷ x ∷ xs

-- The bytes without those at the end that pass the test.
unfoldable pub cut_end : (ℕ → Bool) → List ℕ → List ℕ
cut_end p [] = []
cut_end p (b ∷ bs) = byte_before p b (cut_end p bs)

-- The number that the text is in digits of the base, or None where a byte is no digit of the base.
unfoldable pub numeral_of : ℕ → ℕ → List ℕ → Option ℕ
numeral_of base nought text =
    value_when (list_all (is_digit_of base nought) text) (number base nought text)

-- ---- stamps

-- The stamp at the start of some bytes, and the rest.
unfoldable pub stamp_at : List ℕ → Option (Stamp × List ℕ)
stamp_at bytes = do
  digits ← chunk_of 6 bytes
  mark ← byte_where is_time_mark digits.1
  value_when (list_all is_digit digits.0) (record { digits = digits.0; mark = mark.0 }, mark.1)

-- ---- plain positions

-- The four places of MM.hhN.
abbrev pub places_of : List ℕ → List ℕ
places_of text =
    slice_index text 0 ∷ slice_index text 1 ∷ slice_index text 3 ∷ slice_index text 4 ∷ []

-- How many of the four places are left out, from the right.
abbrev pub ambiguity_of : List ℕ → ℕ
ambiguity_of text = 4 - length (cut_end is_space (places_of text))

-- The minutes of the four places, in hundredths, of which the last `ambiguity` are read as 0. None
-- where a byte can't stand at its place, or where the minutes make a degree or more.
unfoldable pub minutes_of : Axis → ℕ → List ℕ → Option ℕ
minutes_of axis ambiguity places =
    if list_all (is_blank axis) (drop (4 - ambiguity) places)
    then (do
      known ← numeral_of 10 48 (take (4 - ambiguity) places)
      value_when (nat_lt (known * 10 ^ ambiguity) per_degree) (known * 10 ^ ambiguity))
    else None

-- Whether the half that a letter names is negative, or None where it is no letter of this axis.
abbrev pub half_of : Axis → ℕ → Option Bool
half_of axis b =
    if b == letter axis true then Some true else value_when (b == letter axis false) false

-- The angle, from the text of its degrees, and from MM.hh with the letter of its half. None where a
-- byte can't stand at its place, or where the angle is over the axis's limit.
unfoldable pub angle_of : Axis → ℕ → List ℕ → List ℕ → Option ℤ
angle_of axis ambiguity degree_text text = do
  degrees ← numeral_of 10 48 degree_text
  minutes ← minutes_of axis ambiguity (places_of text)
  is_negative ← half_of axis (slice_index text 5)
  value_when (slice_index text 2 == 46 && nat_le (degrees * per_degree + minutes) (limit axis))
      (with_sign is_negative (degrees * per_degree + minutes))

-- The plain position at the start of some bytes, its symbol, and the rest.
unfoldable pub plain_of : List ℕ → Option (Place × Symbol × List ℕ)
plain_of bytes = do
  north ← chunk_of 2 bytes
  north_minutes ← chunk_of 6 north.1
  table ← byte_where is_table north_minutes.1
  east ← chunk_of 3 table.1
  east_minutes ← chunk_of 6 east.1
  code ← byte_where is_code east_minutes.1
  lat ← angle_of Latitude (ambiguity_of north_minutes.0) north.0 north_minutes.0
  lon ← angle_of Longitude (ambiguity_of north_minutes.0) east.0 east_minutes.0
  Some (
    Plain lat lon (ambiguity_of north_minutes.0),
    record { table = table.0; code = code.0 },
    code.1,
  )

-- ---- compressed positions

-- The table that a byte of a compressed position stands for: a to j for the digits, and /, \ and
-- capitals for themselves. None for any other byte, also for a digit.
abbrev pub table_of_byte : ℕ → Option ℕ
table_of_byte b =
    if nat_le 97 b && nat_le b 106 then Some (b - 49)
    else value_when (b == 47 || b == 92 || is_capital b) b

-- The table of a compressed position, and the rest.
unfoldable pub table_at : List ℕ → Option (ℕ × List ℕ)
table_at [] = None
table_at (b ∷ rest) = do
  table ← table_of_byte b
  Some (table, rest)

-- The number of a compressed position, from its four digits of base 91. None where a byte is no
-- digit, or the number is over the greatest.
unfoldable pub base91_of : List ℕ → Option ℕ
base91_of text = do
  n ← numeral_of 91 33 text
  value_when (nat_le n greatest_base91) n

-- The compressed position at the start of some bytes, its symbol, and the rest.
unfoldable pub compressed_of : List ℕ → Option (Place × Symbol × List ℕ)
compressed_of bytes = do
  table ← table_at bytes
  ys ← chunk_of 4 table.1
  xs ← chunk_of 4 ys.1
  code ← byte_where is_code xs.1
  cst ← chunk_of 3 code.1
  y ← base91_of ys.0
  x ← base91_of xs.0
  Some (Base91 y x cst.0, record { table = table.0; code = code.0 }, cst.1)

-- The position at the start of some bytes, which is plain if it begins with a digit.
unfoldable pub place_of : List ℕ → Option (Place × Symbol × List ℕ)
place_of [] = None
place_of (b ∷ rest) = if is_digit b then plain_of (b ∷ rest) else compressed_of (b ∷ rest)

-- ---- position reports

-- The position report that bytes after the stamp are.
unfoldable pub position_of : Bool → Option Stamp → List ℕ → Option Value
position_of messaging stamp bytes = do
  place ← place_of bytes
  Some (position messaging stamp place.0 place.1 place.2)

-- The position report with a stamp that bytes after the first are.
unfoldable pub stamped_position_of : Bool → List ℕ → Option Value
stamped_position_of messaging bytes = do
  stamp ← stamp_at bytes
  position_of messaging (Some stamp.0) stamp.1

-- ---- objects and items

-- The name that a field has: its bytes without the spaces at their end. None where a byte isn't
-- printable, or nothing is left.
abbrev pub name_of : List ℕ → Option (List ℕ)
name_of field =
    value_when (list_all is_printable field && nat_lt 0 (length (cut_end is_space field)))
    (cut_end is_space field)

-- Whether an object or an item is live, by its mark, which is the first byte, and the rest. The
-- mark is `live`, or _ where it is killed.
abbrev pub state_of : ℕ → List ℕ → Option (Bool × List ℕ)
state_of live [] = None
state_of live (b ∷ rest) =
    if b == live then Some (true, rest) else value_when (b == 95) (false, rest)

-- The object that bytes after the first are.
unfoldable pub object_of : List ℕ → Option Value
object_of bytes = do
  field ← chunk_of 9 bytes
  name ← name_of field.0
  state ← state_of 42 field.1
  stamp ← stamp_at state.1
  place ← place_of stamp.1
  Some (object name state.0 stamp.0 place.0 place.1 place.2)

-- The bytes before the first mark of an item, three to nine, and the rest from the mark on.
unfoldable pub item_field_of : List ℕ → Option (List ℕ × List ℕ)
item_field_of bytes = do
  end ← first_place is_item_mark bytes
  value_when (nat_le 3 end && nat_le end 9) (take end bytes, drop end bytes)

-- The item that bytes after the first are.
unfoldable pub item_of : List ℕ → Option Value
item_of bytes = do
  field ← item_field_of bytes
  name ← name_of field.0
  state ← state_of 33 field.1
  place ← place_of state.1
  Some (item name state.0 place.0 place.1 place.2)

-- ---- statuses

-- The stamp in UTC at the start of some bytes, and the rest.
unfoldable pub utc_at : List ℕ → Option (Stamp × List ℕ)
utc_at bytes = do
  stamp ← stamp_at bytes
  value_when (stamp.0.mark == 122) stamp

-- The status of a stamp, if there is one, and a text.
abbrev pub status_with : List ℕ → Option (Stamp × List ℕ) → Value
status_with bytes None = status None bytes
status_with bytes (Some s) = status (Some s.0) s.1

-- The status that bytes after the first are.
abbrev pub status_of : List ℕ → Value
status_of bytes = status_with bytes (utc_at bytes)

-- ---- messages

-- The byte is a colon.
abbrev pub is_colon : ℕ → Bool
is_colon b = b == 58

-- The addressee, from nine bytes, and the part, which follows a colon, without CR and LF at its
-- end.
unfoldable pub addressee_and_part_of : List ℕ → Option (List ℕ × List ℕ)
addressee_and_part_of bytes = do
  field ← chunk_of 9 bytes
  name ← name_of field.0
  colon ← byte_where is_colon field.1
  Some (name, cut_end is_line_end colon.1)

-- The id after this word of three bytes, or None where the part doesn't begin so or no id follows.
unfoldable pub answer_at : List ℕ → List ℕ → Option (List ℕ)
answer_at word [] = None
answer_at word (x ∷ []) = None
answer_at word (x ∷ y ∷ []) = None
answer_at word (x ∷ y ∷ z ∷ id) =
    let begins = x == slice_index word 0 && y == slice_index word 1 && z == slice_index word 2 in
    value_when (begins && is_id id) id

-- The id after a brace, with which the bytes begin.
abbrev pub id_at : List ℕ → Option (List ℕ)
id_at [] = None
id_at (b ∷ id) = value_when (b == 123 && is_id id) id

-- The text and the id of a part that begins with this byte: where a brace and an id begin here, the
-- text is empty, and else this byte stands before the text and the id found later.
abbrev pub text_and_id_with : ℕ → Option (List ℕ) → Option (List ℕ × List ℕ) →
    Option (List ℕ × List ℕ)
text_and_id_with b (Some id) later = Some ([], id)
text_and_id_with b None later = later >>= λ x. Some (b ∷ x.0, x.1)

-- The text and the id of a part, if it has an id.
unfoldable pub text_and_id_of : List ℕ → Option (List ℕ × List ℕ)
text_and_id_of [] = None
text_and_id_of (b ∷ bs) = text_and_id_with b (id_at (b ∷ bs)) (text_and_id_of bs)

-- What a part says: an acknowledgement, a rejection, a text with its id, or all text.
abbrev pub part_with : List ℕ → List ℕ → Option (List ℕ) → Option (List ℕ) →
    Option (List ℕ × List ℕ) → Value
part_with addressee part (Some id) rejected numbered = ack addressee id
part_with addressee part None (Some id) numbered = rej addressee id
part_with addressee part None None (Some x) = message addressee x.0 (Some x.1)
part_with addressee part None None None = message addressee part None

-- What the part after the addressee says.
abbrev pub part_of : List ℕ → List ℕ → Value
part_of addressee part =
    part_with addressee part (answer_at (codes "ack") part) (answer_at (codes "rej") part)
    (text_and_id_of part)

-- The message or answer that bytes after the first are.
unfoldable pub message_with : List ℕ → Option Value
message_with bytes = do
  addressed ← addressee_and_part_of bytes
  Some (part_of addressed.0 addressed.1)

-- ---- by the first byte

-- The report that has the form of the field, by its first byte.
unfoldable pub report_by_form : List ℕ → Option Value
report_by_form [] = None
report_by_form (b ∷ rest) =
    if b == 33 then position_of false None rest
    else (if b == 61 then position_of true None rest
    else (if b == 47 then stamped_position_of false rest
    else (if b == 64 then stamped_position_of true rest
    else (if b == 59 then object_of rest
    else (if b == 41 then item_of rest
    else (if b == 62 then Some (status_of rest)
    else (if b == 58 then message_with rest else None)))))))

-- What a field reads as: a report with a form, or raw.
abbrev pub reading_of : List ℕ → Value
reading_of info = unwrap_or (report_by_form info) raw
