-- How far a line begins as a row's line does.
use Rattle.std.specs.Prelude.{ℕ, ◌+◌, ◌==◌, ◌||◌, ◌&&◌, if◌then◌else◌, Bool, List, [], ◌∷◌, Option, None, Some, nat_le, nat_lt}
use Rattle.aprs_log.specs.Receiver.{is_name_byte}
use Rattle.aprs_bookfile.specs.declared.row_place.Field.{Field}
use Rattle.aprs_bookfile.specs.declared.row_place.Field.TheVariants.{Tag, First, Last, Receivers, Receiver, Frame}
use Rattle.aprs_bookfile.specs.declared.row_place.Place.{Place}

-- Whether a byte is a lower case hexadecimal digit.
abbrev pub is_digit_byte : ℕ → Bool
is_digit_byte b = (nat_le 48 b && nat_le b 57) || (nat_le 97 b && nat_le b 102)

-- Whether the field may hold the byte. Neither a space nor a comma is one that a field may hold.
abbrev pub is_byte_of : Field → ℕ → Bool
is_byte_of Tag b = b == 84
is_byte_of First b = nat_le 45 b
is_byte_of Last b = nat_le 45 b
is_byte_of Receivers b = is_name_byte b
is_byte_of Receiver b = is_name_byte b
is_byte_of Frame b = is_digit_byte b

-- The fewest bytes of the field, or of one of its names.
abbrev pub least_of : Field → ℕ
least_of Tag = 1
least_of First = 20
least_of Last = 20
least_of Receivers = 1
least_of Receiver = 1
least_of Frame = 2

-- The most bytes of the field, or of one of its names.
abbrev pub most_of : Field → ℕ
most_of Tag = 1
most_of First = 24
most_of Last = 24
most_of Receivers = 16
most_of Receiver = 16
most_of Frame = 656

-- The field that this byte ends the field for, or another name of the same field.
abbrev pub field_after : Field → ℕ → Option Field
field_after Tag b = if b == 32 then Some First else None
field_after First b = if b == 32 then Some Last else None
field_after Last b = if b == 32 then Some Receivers else None
field_after Receivers b =
    if b == 44 then Some Receivers else if b == 32 then Some Receiver else None
field_after Receiver b = if b == 32 then Some Frame else None
field_after Frame b = None

-- The beginning of a field, or of one of its names.
abbrev pub beginning_of : Option Field → Option Place
beginning_of None = None
beginning_of (Some field) = Some (record { field = field; size = 0 })

-- The place after one byte more of the same field, if it may be so long.
abbrev pub place_within : Place → Option Place
place_within p = if nat_lt p.size (most_of p.field)
    then Some (record { field = p.field; size = p.size + 1 })
    else None

-- The place after so many bytes more of the same field.
abbrev pub place_further : Place → ℕ → Place
place_further p n = record { field = p.field; size = p.size + n }

-- The place after this byte, which ends the field or a name, if it may be so short.
abbrev pub place_beyond : Place → ℕ → Option Place
place_beyond p b = if nat_lt p.size (least_of p.field)
    then None
    else beginning_of (field_after p.field b)

-- The place after one byte more, if a row's line may have the byte there.
abbrev pub place_after : Place → ℕ → Option Place
place_after p b = if is_byte_of p.field b then place_within p else place_beyond p b

-- The place after one byte more, or none where there was none before or none comes after.
abbrev pub next_after : Option Place → ℕ → Option Place
next_after None b = None
next_after (Some p) b = place_after p b

-- The place after these bytes more.
abbrev pub last_after : Option Place → List ℕ → Option Place
last_after place [] = place
last_after place (b ∷ bytes) = last_after (next_after place b) bytes

-- Where a row's line begins.
abbrev pub first_place : Place
first_place = record { field = Tag; size = 0 }

-- The place after the line, if a row's line may begin so.
abbrev pub place_in : List ℕ → Option Place
place_in line = last_after (Some first_place) line
