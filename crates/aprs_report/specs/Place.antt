-- A position with its symbol, plain or compressed, and its angles in degrees.
use Rattle.std.specs.Prelude.{◌≡◌, ℕ, ℤ, pos, ◌-ℤ◌, List, [], ◌∷◌, ◌++◌, length}
use Rattle.aprs_report.specs.declared.symbol.Symbol.{Symbol}
use Rattle.aprs_report.specs.declared.place.coordinate.Axis.TheVariants.{Latitude, Longitude}
use Rattle.aprs_report.specs.declared.place.Place.{Place}
use Rattle.aprs_report.specs.declared.place.Place.TheVariants.{Plain, Base91}
use Rattle.aprs_report.specs.declared.place.Fraction.{Fraction}
use Rattle.aprs_report.specs.Symbol.{IsSymbol, compressed_table}
use Rattle.aprs_report.specs.Coordinate.{IsCoordinate, per_degree}
use Rattle.aprs_report.specs.Compressed.{IsBase91, middle, latitude_parts, longitude_parts}

-- The text is a plain position in nineteen bytes: latitude, table, longitude and code. Both angles
-- have the latitude's ambiguity.
pub record IsPlainPlace (lat lon : ℤ) (ambiguity : ℕ) (s : Symbol) (text : List ℕ) : Type 0 where
  pub lat_text : List ℕ
  pub lon_text : List ℕ
  pub at_lat : IsCoordinate Latitude ambiguity lat lat_text
  pub at_lon : IsCoordinate Longitude ambiguity lon lon_text
  pub symbol : IsSymbol s
  pub whole : text ≡ lat_text ++ (s.table ∷ (lon_text ++ s.code ∷ []))

-- The text is a compressed position in thirteen bytes: table, YYYY, XXXX, code, and the three bytes
-- c, s and T as they stand.
pub record IsCompressedPlace (y x : ℕ) (cst : List ℕ) (s : Symbol) (text : List ℕ) : Type 0 where
  pub y_text : List ℕ
  pub x_text : List ℕ
  pub at_y : IsBase91 y y_text
  pub at_x : IsBase91 x x_text
  pub three : length cst ≡ 3
  pub symbol : IsSymbol s
  pub whole : text ≡ compressed_table s.table ∷ (y_text ++ (x_text ++ (s.code ∷ cst)))

-- The text is this position with this symbol, plain or compressed.
abbrev pub IsPlace : Place → Symbol → List ℕ → Type 0
IsPlace (Plain lat lon ambiguity) s text = IsPlainPlace lat lon ambiguity s text
IsPlace (Base91 y x cst) s text = IsCompressedPlace y x cst s text

-- The degrees north: those of a plain position's hundredths of minutes, or 90 - y / 380926 of a
-- compressed position.
abbrev pub latitude_of : Place → Fraction
latitude_of (Plain lat lon ambiguity) = record { numerator = lat; denominator = pos per_degree }
latitude_of (Base91 y x cst) = record {
  numerator = middle -ℤ pos y;
  denominator = latitude_parts;
}

-- The degrees east: those of a plain position's hundredths of minutes, or -180 + x / 190463 of a
-- compressed position.
abbrev pub longitude_of : Place → Fraction
longitude_of (Plain lat lon ambiguity) = record { numerator = lon; denominator = pos per_degree }
longitude_of (Base91 y x cst) = record {
  numerator = pos x -ℤ middle;
  denominator = longitude_parts;
}
