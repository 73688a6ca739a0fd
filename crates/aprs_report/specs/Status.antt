-- A status report (APRS Protocol Reference 1.0.1, chapter 16).
use Rattle.std.specs.Prelude.{◌≡◌, ℕ, List, ◌++◌, Option, Some, None, codes}
use Rattle.aprs_report.specs.declared.stamp.Stamp.{Stamp}
use Rattle.aprs_report.specs.Stamp.{IsStamp, stamp_bytes}

-- The bytes are a stamp of day, hour and minute in UTC, and the rest.
pub record BeginsInUtc (stamp : Stamp) (bytes rest : List ℕ) : Type 0 where
  pub stamped : IsStamp stamp
  pub utc : stamp.mark ≡ 122
  pub whole : bytes ≡ stamp_bytes stamp ++ rest

-- The field is ">", a stamp in UTC and the text; or ">" and the text, which begins with no such
-- stamp.
abbrev pub IsStatus : Option Stamp → List ℕ → List ℕ → Type 0
IsStatus (Some stamp) text info = (bytes : List ℕ) × BeginsInUtc stamp bytes text ×
    (info ≡ codes ">" ++ bytes)
IsStatus None text info = (info ≡ codes ">" ++ text) × ((stamp : Stamp) (rest : List ℕ) →
    BeginsInUtc stamp text rest → ⊥)
