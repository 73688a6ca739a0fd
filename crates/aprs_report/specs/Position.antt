-- A position report (APRS Protocol Reference 1.0.1, chapter 8).
use Rattle.std.specs.Prelude.{◌≡◌, ℕ, Bool, true, false, List, [], ◌∷◌, ◌++◌, Option, Some, None}
use Rattle.aprs_report.specs.declared.stamp.Stamp.{Stamp}
use Rattle.aprs_report.specs.declared.symbol.Symbol.{Symbol}
use Rattle.aprs_report.specs.declared.place.Place.{Place}
use Rattle.aprs_report.specs.Stamp.{IsStamp, stamp_bytes}
use Rattle.aprs_report.specs.Place.{IsPlace}

-- The first byte shows whether there is a stamp and whether the station takes messages:
-- ! without either, = with messages, / with a stamp, @ with both.
abbrev pub position_byte : Bool → Option Stamp → ℕ
position_byte false None = 33
position_byte true None = 61
position_byte false (Some s) = 47
position_byte true (Some s) = 64

-- The text is the stamp, or nothing where there is none.
abbrev pub IsOptionalStamp : Option Stamp → List ℕ → Type 0
IsOptionalStamp None text = text ≡ []
IsOptionalStamp (Some s) text = IsStamp s × (text ≡ stamp_bytes s)

-- The field is the first byte as above, a stamp if there is one, a position and a comment.
pub record IsPosition (messaging : Bool) (stamp : Option Stamp) (place : Place) (symbol : Symbol)
    (comment : List ℕ) (info : List ℕ) : Type 0 where
  pub stamp_text : List ℕ
  pub place_text : List ℕ
  pub at_stamp : IsOptionalStamp stamp stamp_text
  pub at_place : IsPlace place symbol place_text
  pub whole : info ≡ position_byte messaging stamp ∷ (stamp_text ++ (place_text ++ comment))
