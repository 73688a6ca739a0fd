-- Worked examples of the definitions.
-- No public clause cites this module.
use Rattle.std.specs.Prelude.{ℕ, ℤ, pos, neg_ℤ, Bool, true, false, List, [], ◌∷◌, ◌++◌, None, Some}
use Rattle.std.specs.Prelude.{codes}
use Rattle.aprs_report.specs.declared.stamp.Stamp.{Stamp}
use Rattle.aprs_report.specs.declared.symbol.Symbol.{Symbol}
use Rattle.aprs_report.specs.declared.place.Fraction.{Fraction}
use Rattle.aprs_report.specs.declared.place.Place.{Place}
use Rattle.aprs_report.specs.declared.place.Place.TheVariants.{Plain, Base91}
use Rattle.aprs_report.specs.Reading.{Value, position, object, item, message}
use Rattle.aprs_report.specs.Reading.{Reads}

-- The field reads as this report.
pub record Example (info : List ℕ) (v : Value) : Type 0 where
  pub reads : Reads v info

-- The negative number.
abbrev pub minus : ℕ → ℤ
minus n = neg_ℤ (pos n)

-- A fraction of this numerator and denominator.
abbrev pub fraction : ℤ → ℕ → Fraction
fraction n d = record { numerator = n; denominator = pos d }

-- A symbol of this table and code.
abbrev pub example_symbol : ℕ → ℕ → Symbol
example_symbol table code = record { table = table; code = code }

-- A house (symbol /-), without stamp, messages or comment.
abbrev pub plain : ℤ → ℤ → ℕ → Value
plain lat lon ambiguity = position false None (Plain lat lon ambiguity) (example_symbol 47 45) []

-- A car (symbol >) of a station that takes messages, with c, s and T " sT".
abbrev pub compressed_position : ℕ → ℕ → ℕ → Value
compressed_position table y x =
    position true None (Base91 y x (32 ∷ 115 ∷ 84 ∷ [])) (example_symbol table 62) []

-- A stamp of the digits 092345 and this mark.
abbrev pub stamp_with : ℕ → Stamp
stamp_with mark = record { digits = codes "092345"; mark = mark }

-- 49 degrees 3.50 minutes north, 72 degrees 1.75 minutes west.
abbrev pub here : Place
here = Plain (pos 294350) (minus 432175) 0

-- The object LEADER, a car that is here.
abbrev pub leader : Bool → Value
leader live = object (codes "LEADER") live (stamp_with 122) here (example_symbol 47 62) []

-- The object LEADER, live, with the mark of its stamp.
abbrev pub leader_by : ℕ → Value
leader_by mark = object (codes "LEADER") true (stamp_with mark) here (example_symbol 47 62) []

-- The item LEADER, a car that is here.
abbrev pub leader_item : Bool → Value
leader_item live = item (codes "LEADER") live here (example_symbol 47 62) []

-- The field of the live object LEADE, with this byte at the end of its name.
abbrev pub object_field : ℕ → List ℕ
object_field last = codes ";LEADE" ++ last ∷ codes "   *092345z4903.50N/07201.75W>"

-- What it reads as.
abbrev pub object_ending : ℕ → Value
object_ending last =
    object (codes "LEADE" ++ last ∷ []) true (stamp_with 122) here (example_symbol 47 62) []

-- The field of the live item LEADE, with this byte at the end of its name.
abbrev pub item_field : ℕ → List ℕ
item_field last = codes ")LEADE" ++ last ∷ codes "!4903.50N/07201.75W>"

-- What it reads as.
abbrev pub item_ending : ℕ → Value
item_ending last = item (codes "LEADE" ++ last ∷ []) true here (example_symbol 47 62) []

-- The field of a message to WU2, with this byte at the end of the addressee.
abbrev pub message_field : ℕ → List ℕ
message_field last = codes ":WU2" ++ last ∷ codes "     :Hi"

-- The field of a house's position, with this table and this code of its symbol.
abbrev pub symbol_field : ℕ → ℕ → List ℕ
symbol_field table code = codes "!4903.50N" ++ table ∷ codes "07201.75W" ++ code ∷ []

-- What it reads as: a position here with this symbol.
abbrev pub with_symbol : ℕ → ℕ → Value
with_symbol table code = position false None here (example_symbol table code) []

-- The field of a compressed position, with this byte for its table.
abbrev pub compressed_field : ℕ → List ℕ
compressed_field byte = 61 ∷ byte ∷ codes "5L!!<*e7> sT"

-- The position of a car here, of a station that takes messages or takes none, with this stamp.
abbrev pub stamped : Bool → ℕ → Value
stamped messaging mark =
    position messaging (Some (stamp_with mark)) here (example_symbol 47 62) []

-- A message to WU2Z that says all of this text.
abbrev pub unnumbered : List ℕ → Value
unnumbered text = message (codes "WU2Z") text None
