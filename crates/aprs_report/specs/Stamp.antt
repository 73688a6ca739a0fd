-- A time stamp of seven bytes (APRS Protocol Reference 1.0.1, chapter 6).
use Rattle.std.specs.Prelude.{◌≡◌, ℕ, Bool, true, ◌||◌, ◌==◌, List, [], ◌∷◌, ◌++◌, length}
use Rattle.std.specs.List.{list_all}
use Rattle.aprs_report.specs.declared.stamp.Stamp.{Stamp}
use Rattle.aprs_report.specs.Bytes.{is_digit}

-- The byte is z, for day, hour and minute in UTC; /, for the same in local time; or h, for hour,
-- minute and second in UTC.
abbrev pub is_time_mark : ℕ → Bool
is_time_mark b = b == 122 || b == 47 || b == 104

-- The stamp is six digits and a mark.
pub record IsStamp (s : Stamp) : Type 0 where
  pub six : length s.digits ≡ 6
  pub digits : list_all is_digit s.digits ≡ true
  pub mark : is_time_mark s.mark ≡ true

-- The bytes of a stamp: the six digits and the mark.
abbrev pub stamp_bytes : Stamp → List ℕ
stamp_bytes s = s.digits ++ s.mark ∷ []
