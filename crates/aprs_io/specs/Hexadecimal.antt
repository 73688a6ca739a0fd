-- Digits that are read and written in blocks. No public clause cites this module.
use Rattle.std.specs.Prelude.{◌≡◌, ℕ, ◌+◌, ◌*◌, ◌/◌, ◌%◌, ◌<◌, List, slice_index, Ok, Some}
use Rattle.hex.specs.Hex.{hex_digit_value, lower_digits, pair_value}

-- Byte k of `out` is the byte that pair k of the text's digits stands for.
unfoldable pub HoldsByte : List ℕ → List ℕ → ℕ → Type 0
HoldsByte text out k =
    pair_value (slice_index text (2 * k)) (slice_index text (2 * k + 1)) (2 * k)
    ≡ Ok (slice_index out k)

-- Number j of `values` is the value of digit j.
abbrev pub HoldsValue : List ℕ → List ℕ → ℕ → Type 0
HoldsValue digits values j =
    (slice_index values j < 16)
    × (hex_digit_value (slice_index digits j) ≡ Some (slice_index values j))

-- The byte of two digits that have these values.
abbrev pub byte_of : ℕ → ℕ → ℕ
byte_of high low = (high * 16 % 256 + low) % 256

-- Pair k of `digits` are the lower case hexadecimal digits of byte k: first the high half, then the
-- low half.
abbrev pub HoldsDigits : List ℕ → List ℕ → ℕ → Type 0
HoldsDigits bytes digits k =
    (slice_index digits (2 * k) ≡ slice_index lower_digits (slice_index bytes k / 16))
    × (slice_index digits (2 * k + 1) ≡ slice_index lower_digits (slice_index bytes k % 16))

-- Pair k of `twice` is byte k, twice.
abbrev pub HoldsTwice : List ℕ → List ℕ → ℕ → Type 0
HoldsTwice bytes twice k =
    (slice_index twice (2 * k) ≡ slice_index bytes k)
    × (slice_index twice (2 * k + 1) ≡ slice_index bytes k)

-- Digit k is the lower case hexadecimal digit of the high half of byte k if k is even, or else of
-- the low half.
abbrev pub HoldsDigit : List ℕ → List ℕ → ℕ → Type 0
HoldsDigit bytes digits k =
    (k % 2 ≡ 0 → slice_index digits k ≡ slice_index lower_digits (slice_index bytes k / 16))
    × (k % 2 ≡ 1 → slice_index digits k ≡ slice_index lower_digits (slice_index bytes k % 16))
