-- Worked examples of the definitions, and near misses, each with its name before it.
use Rattle.aprs_mice.proofs.Common.{◌≡◌, ℕ, ℤ, Bool, true, false, List, [], ◌∷◌, ◌++◌, Option, None, Some, refl}
use Rattle.std.specs.Prelude.{pos, neg_ℤ, codes, map}
use Rattle.std.specs.List.{All}
use Rattle.std.proofs.lemmas.List.Elements.{All-nil, All-cons}
use Rattle.aprs_report.specs.declared.place.Place.TheVariants.{Plain}
use Rattle.aprs_mice.specs.declared.mic_e_message.MicEMessage.{MicEMessage}
use Rattle.aprs_mice.specs.declared.mic_e_message.MicEMessage.TheVariants as say
use Rattle.aprs_mice.specs.declared.mark.Bit.{Bit}
use Rattle.aprs_mice.specs.declared.mark.Bit.TheVariants as bit
use Rattle.aprs_mice.specs.MicE.{MicEValue, MicEOf}
use Rattle.aprs_mice.specs.MicEMessage.{message_of_bits, message_name}
use Rattle.aprs_mice.specs.Reader.{mic_e_or_none, destination_of, position_mark_of, ambiguity_of_spaces}
use Rattle.aprs_mice.specs.Reader.{longitude_of_octets, motion_of}
use Rattle.aprs_mice.proofs.Readings.{mic_e_found, mic_e_takes, none_some}

-- A frame, a destination's characters and a field, with what it reads as.
abbrev pub Row : Type 0
Row = List ℕ × List ℕ × MicEValue

-- A frame alone.
abbrev pub Fields : Type 0
Fields = List ℕ × List ℕ

abbrev pub ReadsAs : Row → Type 0
ReadsAs r = MicEOf r.2 r.0 r.1

abbrev pub IsNone : Fields → Type 0
IsNone f = (v : MicEValue) → MicEOf v f.0 f.1 → ⊥

-- Each frame reads as the value beside it.
pub record Reads (rows : List Row) : Type 0 where
  pub each : All ReadsAs rows

-- None of the frames is a Mic-E frame.
pub record Misses (frames : List Fields) : Type 0 where
  pub each : All IsNone frames

-- The negative number.
abbrev below_zero : ℕ → ℤ
below_zero n = neg_ℤ (pos n)

-- The field of a jeep (symbol /j) at 20 knots and 251 degrees, as the standard shows it.
abbrev jeep_field : List ℕ
jeep_field = codes "`(_fn\"Oj/"

-- Its current position at this latitude, longitude and ambiguity, with this message.
abbrev jeep : ℤ → ℤ → ℕ → MicEMessage → MicEValue
jeep lat lon ambiguity message = record {
  place = Plain lat lon ambiguity;
  speed = 20;
  course = 251;
  message = message;
  symbol = record { table = 47; code = 106 };
  is_current = true;
  comment = [];
}

-- The jeep at 33 degrees 25.64 minutes north and 112 degrees 7.74 minutes west, with this message.
abbrev jeep_says : MicEMessage → MicEValue
jeep_says message = jeep (pos 200564) (below_zero 672774) 0 message

-- The jeep at this latitude and ambiguity.
abbrev jeep_north : ℤ → ℕ → MicEValue
jeep_north lat ambiguity = jeep lat (below_zero 672774) ambiguity say.Returning

-- The jeep at this longitude.
abbrev jeep_east : ℤ → MicEValue
jeep_east lon = jeep (pos 200564) lon 0 say.Returning

-- The jeep's field with these three octets of longitude.
abbrev at_octets : (d_octet m_octet h_octet : ℕ) → List ℕ
at_octets d_octet m_octet h_octet = 96 ∷ d_octet ∷ m_octet ∷ h_octet ∷ codes "n\"Oj/"

-- The jeep's field with these three octets of speed and course.
abbrev by_octets : (sp_octet dc_octet se_octet : ℕ) → List ℕ
by_octets sp_octet dc_octet se_octet =
    codes "`(_f" ++ sp_octet ∷ dc_octet ∷ se_octet ∷ codes "j/"

-- The jeep at this speed and course.
abbrev jeep_moves : (speed course : ℕ) → MicEValue
jeep_moves speed course = record {
  place = Plain (pos 200564) (below_zero 672774) 0;
  speed = speed;
  course = course;
  message = say.Returning;
  symbol = record { table = 47; code = 106 };
  is_current = true;
  comment = [];
}

-- Any position, speed, course, message, symbol, age and comment.
abbrev anything : ℤ → ℤ → ℕ → ℕ → ℕ → MicEMessage → ℕ → ℕ → Bool → List ℕ → MicEValue
anything lat lon ambiguity speed course message table code is_current comment = record {
  place = Plain lat lon ambiguity;
  speed = speed;
  course = course;
  message = message;
  symbol = record { table = table; code = code };
  is_current = is_current;
  comment = comment;
}

-- what the steps of reading compute with
abbrev reader : List ℕ → List ℕ → Option MicEValue
unfolding mic_e_or_none destination_of position_mark_of ambiguity_of_spaces longitude_of_octets motion_of
reader characters info = mic_e_or_none characters info

all_read : (rows : List Row) →
    map (λ (r : Row). mic_e_or_none r.0 r.1) rows ≡ map (λ (r : Row). Some r.2) rows → Reads rows
all_read [] e = record { each = All-nil ReadsAs }
all_read (r ∷ rows) e = record {
  each = All-cons ReadsAs r rows (mic_e_found r.0 r.1 r.2 (cc)) (all_read rows (cc)).each;
}

all_missed : (frames : List Fields) → map (λ (f : Fields). mic_e_or_none f.0 f.1) frames
    ≡ map (λ (f : Fields). None) frames → Misses frames
all_missed [] e = record { each = All-nil IsNone }
all_missed (f ∷ frames) e = record {
  each = All-cons IsNone f frames
      (λ v h. none_some (mic_e_or_none f.0 f.1) v (cc) (mic_e_takes f.0 f.1 v h))
      (all_missed frames (cc)).each;
}

-- The destination and the field that the standard shows, with and without the offset, in each
-- quarter of the world; a car, and a walker whose position is old.
pub frames_are_as_the_standard_shows_them : Reads (
    (codes "S32UVT", jeep_field, jeep_says say.Returning) ∷  -- shown
    (codes "S32U6T", jeep_field, jeep_east (below_zero 72774)) ∷  -- no offset
    (codes "S32UV4", jeep_field, jeep_east (pos 672774)) ∷  -- east
    (codes "S325VT", jeep_field, jeep_north (below_zero 200564) 0) ∷  -- south
    -- comment
    (
      codes "X5T20R",
      codes "`D;`7QA_/]Hi",
      anything (below_zero 514202) (below_zero 243168) 0 275 337 say.InService 47 95 true (codes "]Hi"),
    ) ∷
    -- old
    (
      codes "TSZLZZ",
      codes "'?Q'Mz*>9>text",
      anything (below_zero 258000) (below_zero 815311) 4 499 14 say.OffDuty 57 62 false (codes ">text"),
    ) ∷ [])
unfolding reader
frames_are_as_the_standard_shows_them = all_read _ refl

-- The message is by the bits A, B and C, of the first three characters: each row of both tables,
-- and three mixtures.
pub messages_are_by_three_bits : Reads (
    (codes "SSRUVT", jeep_field, jeep_says say.OffDuty) ∷  -- off duty
    (codes "SS2UVT", jeep_field, jeep_says say.EnRoute) ∷  -- en route
    (codes "S3RUVT", jeep_field, jeep_says say.InService) ∷  -- in service
    (codes "S32UVT", jeep_field, jeep_says say.Returning) ∷  -- returning
    (codes "3SRUVT", jeep_field, jeep_says say.Committed) ∷  -- committed
    (codes "3S2UVT", jeep_field, jeep_says say.Special) ∷  -- special
    (codes "33RUVT", jeep_field, jeep_says say.Priority) ∷  -- priority
    (codes "332UVT", jeep_field, jeep_says say.Emergency) ∷  -- emergency
    (codes "DDCUVT", jeep_field, jeep_says say.Custom0) ∷  -- custom nought
    (codes "DD2UVT", jeep_field, jeep_says say.Custom1) ∷  -- custom one
    (codes "D3CUVT", jeep_field, jeep_says say.Custom2) ∷  -- custom two
    (codes "D32UVT", jeep_field, jeep_says say.Custom3) ∷  -- custom three
    (codes "3DCUVT", jeep_field, jeep_says say.Custom4) ∷  -- custom four
    (codes "3D2UVT", jeep_field, jeep_says say.Custom5) ∷  -- custom five
    (codes "33CUVT", jeep_field, jeep_says say.Custom6) ∷  -- custom six
    (codes "DSCUVT", jeep_field, jeep_says say.Unknown) ∷  -- mixed all
    (codes "S3CUVT", jeep_field, jeep_says say.Unknown) ∷  -- mixed first and last
    (codes "3DRUVT", jeep_field, jeep_says say.Unknown) ∷ [])  -- mixed last two
unfolding reader
messages_are_by_three_bits = all_read _ refl

-- The bits A, B and C, with the name of their message.
abbrev pub NameRow : Type 0
NameRow = (Bit × Bit × Bit) × List ℕ

abbrev pub IsNamed : NameRow → Type 0
IsNamed r = message_name (message_of_bits r.0.0 r.0.1 r.0.2) ≡ r.1

-- The messages have the names beside their bits.
pub record Named (rows : List NameRow) : Type 0 where
  pub each : All IsNamed rows

all_named : (rows : List NameRow) →
    map (λ (r : NameRow). message_name (message_of_bits r.0.0 r.0.1 r.0.2)) rows
    ≡ map (λ (r : NameRow). r.1) rows → Named rows
all_named [] e = record { each = All-nil IsNamed }
all_named (r ∷ rows) e = record {
  each = All-cons IsNamed r rows (cc) (all_named rows (cc)).each;
}

-- The names of both tables, M0 to M6, the emergency and C0 to C6, and that of a mixture.
pub messages_have_names : Named (
    ((bit.Standard, bit.Standard, bit.Standard), codes "off-duty") ∷
    ((bit.Standard, bit.Standard, bit.Zero), codes "en-route") ∷
    ((bit.Standard, bit.Zero, bit.Standard), codes "in-service") ∷
    ((bit.Standard, bit.Zero, bit.Zero), codes "returning") ∷
    ((bit.Zero, bit.Standard, bit.Standard), codes "committed") ∷
    ((bit.Zero, bit.Standard, bit.Zero), codes "special") ∷
    ((bit.Zero, bit.Zero, bit.Standard), codes "priority") ∷
    ((bit.Zero, bit.Zero, bit.Zero), codes "emergency") ∷
    ((bit.Custom, bit.Custom, bit.Custom), codes "custom-0") ∷
    ((bit.Custom, bit.Custom, bit.Zero), codes "custom-1") ∷
    ((bit.Custom, bit.Zero, bit.Custom), codes "custom-2") ∷
    ((bit.Custom, bit.Zero, bit.Zero), codes "custom-3") ∷
    ((bit.Zero, bit.Custom, bit.Custom), codes "custom-4") ∷
    ((bit.Zero, bit.Custom, bit.Zero), codes "custom-5") ∷
    ((bit.Zero, bit.Zero, bit.Custom), codes "custom-6") ∷
    ((bit.Custom, bit.Standard, bit.Zero), codes "unknown") ∷ [])
messages_have_names = all_named _ refl

-- The destination's characters are those of the table, and six. The last three have no custom bit.
pub destinations_have_six_characters : Reads (
    -- nine as custom
    (codes "DJ2UVT", jeep_field, jeep (pos 236564) (below_zero 672774) 0 say.Custom1) ∷
    (codes "S92UVT", jeep_field, jeep_north (pos 236564) 0) ∷  -- nine as digit
    -- nought as custom
    (codes "DDAUVT", jeep_field, jeep (pos 198564) (below_zero 672774) 0 say.Custom0) ∷ [])
unfolding reader
destinations_have_six_characters = all_read _ refl

-- Near misses.
pub destinations_have_six_characters-misses : Misses (
    (codes "M32UVT", jeep_field) ∷  -- between
    (codes "O32UVT", jeep_field) ∷  -- before standard
    (codes "[32UVT", jeep_field) ∷  -- after standard
    (codes "@32UVT", jeep_field) ∷  -- before custom
    (codes "/32UVT", jeep_field) ∷  -- before digits
    (codes "S32:VT", jeep_field) ∷  -- after digits
    (codes "s32UVT", jeep_field) ∷  -- lower case
    (codes "S32FVT", jeep_field) ∷  -- custom north
    (codes "S32UGT", jeep_field) ∷  -- custom offset
    (codes "S32UVE", jeep_field) ∷  -- custom west
    (codes "S32UVK", jeep_field) ∷  -- custom space
    (codes "S32UV", jeep_field) ∷  -- five
    (codes "S32UVT7", jeep_field) ∷ [])  -- seven
unfolding reader
destinations_have_six_characters-misses = all_missed _ refl

-- The last digits of the latitude can be left out, up to the four of the minutes. A space has a
-- bit too. The longitude is as it is.
pub digits_are_left_out_at_the_end : Reads (
    (codes "S32UVZ", jeep_field, jeep_north (pos 200560) 1) ∷  -- one
    (codes "S32UZZ", jeep_field, jeep_north (pos 200500) 2) ∷  -- two
    (codes "S32ZZZ", jeep_field, jeep_north (pos 200000) 3) ∷  -- three
    (codes "S3LZZZ", jeep_field, jeep_north (pos 198000) 4) ∷  -- four
    -- custom space
    (codes "DDKZZZ", jeep_field, jeep (pos 198000) (below_zero 672774) 4 say.Custom0) ∷
    -- standard space
    (codes "S3ZZZZ", jeep_field, jeep (pos 198000) (below_zero 672774) 4 say.InService) ∷
    (codes "S32LZZ", jeep_field, jeep_north (below_zero 200000) 3) ∷  -- south
    -- no offset
    (codes "S32ULZ", jeep_field, jeep (pos 200500) (below_zero 72774) 2 say.Returning) ∷
    (codes "S32UVL", jeep_field, jeep (pos 200560) (pos 672774) 1 say.Returning) ∷ [])  -- east
unfolding reader
digits_are_left_out_at_the_end = all_read _ refl

-- Near misses.
pub digits_are_left_out_at_the_end-misses : Misses (
    (codes "SLLZZZ", jeep_field) ∷  -- five
    (codes "LLLZZZ", jeep_field) ∷  -- six
    (codes "S32ZVT", jeep_field) ∷  -- units alone
    (codes "S3LUVT", jeep_field) ∷  -- tens alone
    (codes "S32UZT", jeep_field) ∷ [])  -- tenths alone
unfolding reader
digits_are_left_out_at_the_end-misses = all_missed _ refl

-- Minutes are below 60, and a latitude is at most 90 degrees.
pub latitudes_end_at_the_poles : Reads (
    (codes "S35YYY", jeep_field, jeep_north (pos 203999) 0) ∷  -- most minutes
    (codes "Y00PPP", jeep_field, jeep_north (pos 540000) 0) ∷  -- north pole
    (codes "Y000PP", jeep_field, jeep_north (below_zero 540000) 0) ∷  -- south pole
    (codes "P00PPP", jeep_field, jeep_north (pos 0) 0) ∷ [])  -- equator
unfolding reader
latitudes_end_at_the_poles = all_read _ refl

-- Near misses.
pub latitudes_end_at_the_poles-misses : Misses (
    (codes "Y00PPQ", jeep_field) ∷  -- past the pole
    (codes "S36PPP", jeep_field) ∷ [])  -- sixty minutes
unfolding reader
latitudes_end_at_the_poles-misses = all_missed _ refl

-- Degrees and minutes of longitude are folded, with the offset of 100 degrees or without.
pub longitudes_are_folded : Reads (
    (codes "S32U6T", at_octets 38 38 28, jeep_east (below_zero 61000)) ∷  -- ten
    (codes "S32U6T", at_octets 127 38 28, jeep_east (below_zero 595000)) ∷  -- ninety nine
    (codes "S32UVT", at_octets 108 88 28, jeep_east (below_zero 600000)) ∷  -- one hundred
    (codes "S32UVT", at_octets 117 97 127, jeep_east (below_zero 654999)) ∷  -- one hundred and nine
    (codes "S32UVT", at_octets 38 38 28, jeep_east (below_zero 661000)) ∷  -- one hundred and ten
    -- one hundred and seventy nine
    (codes "S32UVT", at_octets 107 87 127, jeep_east (below_zero 1079999)) ∷
    (codes "S32UVT", at_octets 118 88 28, jeep_east (pos 0)) ∷  -- nought
    (codes "S32UVT", at_octets 127 97 127, jeep_east (below_zero 54999)) ∷  -- nine
    -- eighty without offset
    (codes "S32U6T", at_octets 108 38 28, jeep_east (below_zero 481000)) ∷ [])
unfolding reader
longitudes_are_folded = all_read _ refl

-- Near misses.
pub longitudes_are_folded-misses : Misses (
    (codes "S32U6T", at_octets 37 38 28) ∷  -- degrees below
    (codes "S32U6T", at_octets 128 38 28) ∷  -- degrees above
    (codes "S32U6T", at_octets 38 37 28) ∷  -- minutes below
    (codes "S32U6T", at_octets 38 98 28) ∷  -- minutes above
    (codes "S32U6T", at_octets 38 38 27) ∷  -- hundredths below
    (codes "S32U6T", at_octets 38 38 128) ∷ [])  -- hundredths above
unfolding reader
longitudes_are_folded-misses = all_missed _ refl

-- Speed and course are in three octets. A speed below 200 has two spellings, and so has a course.
pub speed_and_course_are_in_three_octets : Reads (
    (codes "S32UVT", by_octets 28 28 28, jeep_moves 0 0) ∷  -- still
    (codes "S32UVT", by_octets 108 32 28, jeep_moves 0 0) ∷  -- still folded
    (codes "S32UVT", by_octets 127 118 29, jeep_moves 199 1) ∷  -- fast folded
    (codes "S32UVT", by_octets 107 121 88, jeep_moves 799 360) ∷  -- fastest
    (codes "S32UVT", by_octets 28 35 88, jeep_moves 0 360) ∷  -- north folded
    (codes "S32UVT", by_octets 28 30 127, jeep_moves 0 299) ∷ [])  -- most units
unfolding reader
speed_and_course_are_in_three_octets = all_read _ refl

-- Near misses.
pub speed_and_course_are_in_three_octets-misses : Misses (
    (codes "S32UVT", by_octets 107 121 89) ∷  -- past the circle
    (codes "S32UVT", by_octets 28 35 89) ∷  -- past the circle folded
    (codes "S32UVT", by_octets 28 31 127) ∷  -- before folding
    (codes "S32UVT", by_octets 28 36 28) ∷  -- folded once
    (codes "S32UVT", by_octets 27 28 28) ∷  -- speed below
    (codes "S32UVT", by_octets 128 28 28) ∷  -- speed above
    (codes "S32UVT", by_octets 28 27 28) ∷  -- units below
    (codes "S32UVT", by_octets 28 128 28) ∷  -- units above
    (codes "S32UVT", by_octets 28 28 27) ∷  -- course below
    (codes "S32UVT", by_octets 28 28 128) ∷ [])  -- course above
unfolding reader
speed_and_course_are_in_three_octets-misses = all_missed _ refl

-- The data type identifier, the symbol, and the length of nine octets and more.
pub fields_have_a_data_type_and_a_symbol : Reads (
    -- least code
    (
      codes "S32UVT",
      codes "`(_fn\"O!9",
      anything (pos 200564) (below_zero 672774) 0 20 251 say.Returning 57 33 true [],
    ) ∷
    -- greatest code
    (
      codes "S32UVT",
      codes "`(_fn\"O~Z0",
      anything (pos 200564) (below_zero 672774) 0 20 251 say.Returning 90 126 true (codes "0"),
    ) ∷
    -- alternate table
    (
      codes "S32UVT",
      codes "`(_fn\"Oj\\ ",
      anything (pos 200564) (below_zero 672774) 0 20 251 say.Returning 92 106 true (codes " "),
    ) ∷
    -- least digit
    (
      codes "S32UVT",
      codes "`(_fn\"Oj0",
      anything (pos 200564) (below_zero 672774) 0 20 251 say.Returning 48 106 true [],
    ) ∷
    -- least capital
    (
      codes "S32UVT",
      codes "`(_fn\"OjA",
      anything (pos 200564) (below_zero 672774) 0 20 251 say.Returning 65 106 true [],
    ) ∷ [])
unfolding reader
fields_have_a_data_type_and_a_symbol = all_read _ refl

-- Near misses.
pub fields_have_a_data_type_and_a_symbol-misses : Misses (
    (codes "S32UVT", codes "!(_fn\"Oj/") ∷  -- position
    (codes "S32UVT", (28 ∷ codes "(_fn\"Oj/")) ∷  -- old firmware
    (codes "S32UVT", (29 ∷ codes "(_fn\"Oj/")) ∷  -- old firmware too
    (codes "S32UVT", codes "`(_fn\"Oja") ∷  -- table
    (codes "S32UVT", codes "`(_fn\"O /") ∷  -- code
    (codes "S32UVT", (codes "`(_fn\"O" ++ 127 ∷ codes "/")) ∷  -- code above
    (codes "S32UVT", codes "`(_fn\"O/j") ∷  -- code and table exchanged
    (codes "S32UVT", codes "`(_fn\"Oj") ∷ [])  -- eight
unfolding reader
fields_have_a_data_type_and_a_symbol-misses = all_missed _ refl
