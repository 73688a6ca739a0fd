-- Names of receivers.
use Rattle.std.specs.Prelude.{ℕ, ◌==◌, ◌||◌, ◌&&◌, Bool, List, length, IsTrue, nat_le}
use Rattle.aprs_log.specs.Sizes.{most_name}
use Rattle.std.specs.Char.{is_ascii_alphanumeric}
use Rattle.std.specs.List.{list_all}

-- Whether a byte is an ASCII letter, a digit, `-` or `_`.
abbrev pub is_name_byte : ℕ → Bool
is_name_byte b = is_ascii_alphanumeric b || (b == 45) || (b == 95)

-- Whether bytes are a receiver's name: 1 to 16 such bytes.
abbrev pub is_receiver : List ℕ → Bool
is_receiver bytes = nat_le 1 (length bytes) && nat_le
    (length bytes) most_name && list_all is_name_byte bytes

-- The bytes are a receiver's name.
abbrev pub IsName : List ℕ → Type 0
IsName bytes = IsTrue (is_receiver bytes)
