-- How texts with numbers of reply-acks end.
use Rattle.std.specs.Prelude.{◌≡◌, ◌==◌, ◌&&◌, ◌↔◌, ℕ, true, if◌then◌else◌, List, [], ◌∷◌, ◌++◌, length, Option, None, Some}
use Rattle.std.specs.List.{list_all}
use Rattle.std.specs.Option.{option_or}
use Rattle.aprs_log.specs.Octet.{octet}
use Rattle.aprs_report.specs.Bytes.{is_alphanumeric}
use Rattle.aprs_report.specs.Reader.{value_when}
use Rattle.aprs_summary.specs.ReplyAcks.{is_message_number, is_number_or_nothing}

-- P holds of what the option has, and of nothing else: where that is None, P holds of nothing.
abbrev pub HoldsOnly : {X : Type 0} → (X → Type 0) → Option X → Type 0
HoldsOnly {X} P o = (x : X) → (o ≡ Some x) ↔ P x

-- The bytes are x.0, a mark, and x.1, which is so many letters or digits.
pub record EndsSo (mark len : ℕ) (bytes : List ℕ) (x : List ℕ × List ℕ) : Type 0 where
  pub whole : bytes ≡ x.0 ++ mark ∷ x.1
  pub long : length x.1 ≡ len
  pub alphanumeric : list_all is_alphanumeric x.1 ≡ true

-- The bytes are some, a mark, and at most two letters or digits.
pub record EndsAfter (mark : ℕ) (bytes : List ℕ) (x : List ℕ × List ℕ) : Type 0 where
  pub whole : bytes ≡ x.0 ++ mark ∷ x.1
  pub a_number_or_nothing : is_number_or_nothing x.1 ≡ true

-- The number after "ack", which is all of the rest. None where the bytes don't begin so, or where
-- the rest is no number.
unfoldable pub number_at : List ℕ → Option (List ℕ)
number_at [] = None
number_at (x ∷ []) = None
number_at (x ∷ y ∷ []) = None
number_at (x ∷ y ∷ z ∷ number) =
    value_when (x == octet "a" && y == octet "c" && z == octet "k"
    && is_message_number number) number

-- The number of both bytes x and y, where they are letters or digits. A closing brace and at most
-- two letters or digits have to be all that follow them.
abbrev pub number_of_two : ℕ → ℕ → List ℕ → Option (List ℕ)
number_of_two x y [] = None
number_of_two x y (brace ∷ rest) = value_when
    (brace == octet "}" && is_message_number (x ∷ y ∷ []) && is_number_or_nothing rest) (x ∷ y ∷ [])

-- The number, of one byte or two, that these bytes begin with. A closing brace and at most two
-- letters or digits have to be all that follow it.
abbrev pub closed_number : List ℕ → Option (List ℕ)
closed_number [] = None
closed_number (x ∷ []) = None
closed_number (x ∷ y ∷ rest) = option_or
    (value_when (y == octet "}" && is_message_number (x ∷ [])
    && is_number_or_nothing rest) (x ∷ []))
    (number_of_two x y rest)

-- The number that a text has between braces, or none. At most two letters or digits, and nothing
-- else, may follow them.
abbrev pub trailing_number : List ℕ → Option (List ℕ)
trailing_number [] = None
trailing_number (b ∷ text) =
    option_or (if b == octet "{" then closed_number text else None) (trailing_number text)
