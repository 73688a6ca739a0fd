-- Lines whose fields stand after a space each, as those of a history and of a listing.
use Rattle.std.specs.Prelude.{ℕ, ◌==◌, if◌then◌else◌, List, [], ◌∷◌, ◌++◌, Option, None, Some, codes}
use Rattle.std.specs.List.{flat_map}
use Rattle.std.specs.Fmt.{decimal, signed_decimal}
use Rattle.aprs_io.specs.Shown.{shown_byte, shown_text}
use Rattle.aprs_report.specs.Place.{latitude_of, longitude_of}
use Rattle.aprs_report.specs.Stamp.{stamp_bytes}
use Rattle.aprs_report.specs.declared.place.Fraction.{Fraction}
use Rattle.aprs_report.specs.declared.place.Place.{Place}
use Rattle.aprs_report.specs.declared.place.Place.TheVariants.{Plain, Base91}
use Rattle.aprs_report.specs.declared.stamp.Stamp.{Stamp}
use Rattle.aprs_report.specs.declared.symbol.Symbol.{Symbol}

-- The byte of a space.
abbrev pub space : ℕ
space = 32

-- ---- fields

-- A space as \x20, and any other byte as it is shown.
abbrev pub word_byte : ℕ → List ℕ
word_byte b = if b == space then codes "\\x20" else shown_byte b

-- A name as it is shown in a line: one word without a space.
abbrev pub word : List ℕ → List ℕ
word bytes = flat_map word_byte bytes

-- The seven bytes of a time stamp, or - without one.
abbrev pub stamp_text : Option Stamp → List ℕ
stamp_text None = codes "-"
stamp_text (Some s) = stamp_bytes s

-- Numerator/denominator, in decimal.
abbrev pub degrees_text : Fraction → List ℕ
degrees_text f = signed_decimal f.numerator ++ codes "/" ++ signed_decimal f.denominator

-- How many digits of the minutes are left out, or c for a compressed position.
abbrev pub ambiguity_text : Place → List ℕ
ambiguity_text (Plain lat lon ambiguity) = decimal ambiguity
ambiguity_text (Base91 y x cst) = codes "c"

-- The table and the code of a symbol, as they are shown.
abbrev pub symbol_text : Symbol → List ℕ
symbol_text s = shown_text (s.table ∷ s.code ∷ [])

-- The id of a message, or - without one.
abbrev pub id_word : Option (List ℕ) → List ℕ
id_word None = codes "-"
id_word (Some id) = id

-- The fields that say where something is: time stamp, latitude, longitude, ambiguity and symbol.
abbrev pub place_fields : Option Stamp → Place → Symbol → List (List ℕ)
place_fields stamp place symbol = stamp_text stamp ∷ degrees_text (latitude_of place)
    ∷ degrees_text (longitude_of place) ∷ ambiguity_text place ∷ symbol_text symbol ∷ []

-- ---- lines

-- A field after a space.
abbrev pub after_space : List ℕ → List ℕ
after_space field = codes " " ++ field

-- A line: its kind, each field after a space, and LF.
abbrev pub spaced_line : List ℕ → List (List ℕ) → List ℕ
spaced_line kind fields = kind ++ (flat_map after_space fields ++ codes "\n")

-- A line that ends in a text: its kind, each field after a space, a colon, the text as it is shown,
-- and LF.
abbrev pub line_with_text : List ℕ → List (List ℕ) → List ℕ → List ℕ
line_with_text kind fields text =
    kind ++ (flat_map after_space fields ++ (codes ":" ++ shown_text text ++ codes "\n"))
