-- Telemetry as a comment says it (APRS 1.2, base-91 comment telemetry).
use Rattle.std.specs.Prelude.{◌≡◌, ℕ, List, [], ◌++◌, length, Option, None, Some, codes}
use Rattle.aprs_io.specs.Cut.{Lacks}
use Rattle.aprs_io.specs.Octet.{octet}
use Rattle.aprs_report.specs.Reader.{numeral_of}
use Rattle.aprs_details.specs.declared.comment_telemetry.CommentTelemetry.{CommentTelemetry}
use Rattle.aprs_details.specs.CommentTelemetry.{bits_of}

-- What is left starts with this number, two digits of base 91, and `later` is left after it.
pub record StartsWithNumber (n : ℕ) (left later : List ℕ) : Type 0 where
  pub digits : List ℕ
  pub two : length digits ≡ 2
  pub number : numeral_of 91 33 digits ≡ Some n
  pub whole : left ≡ digits ++ later

-- The number is next in what is left. Where nothing is left there is none.
abbrev pub IsNextNumber : Option ℕ → (left later : List ℕ) → Type 0
IsNextNumber None left later = (left ≡ []) × (later ≡ [])
IsNextNumber (Some n) left later = StartsWithNumber n left later

-- The text is the numbers of this telemetry, one after another: that of the report, one to five
-- values, and after a fifth that of the eight bits.
pub record AreNumbers (t : CommentTelemetry) (text : List ℕ) : Type 0 where
  pub after_sequence : List ℕ
  pub after_a1 : List ℕ
  pub after_a2 : List ℕ
  pub after_a3 : List ℕ
  pub after_a4 : List ℕ
  pub after_a5 : List ℕ
  pub bits_number : Option ℕ
  pub sequence : StartsWithNumber t.sequence text after_sequence
  pub first : StartsWithNumber t.a1 after_sequence after_a1
  pub second : IsNextNumber t.a2 after_a1 after_a2
  pub third : IsNextNumber t.a3 after_a2 after_a3
  pub fourth : IsNextNumber t.a4 after_a3 after_a4
  pub fifth : IsNextNumber t.a5 after_a4 after_a5
  pub last : IsNextNumber bits_number after_a5 []
  pub bits : t.bits ≡ bits_of bits_number

-- The text begins with this telemetry: its numbers stand between a bar and the next.
pub record BeginsWithTelemetry (t : CommentTelemetry) (text : List ℕ) : Type 0 where
  pub numbers : List ℕ
  pub rest : List ℕ
  pub whole : text ≡ codes "|" ++ (numbers ++ (codes "|" ++ rest))
  pub alone : Lacks (octet "|") numbers
  pub are : AreNumbers t numbers
