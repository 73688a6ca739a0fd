-- Bytes as texts show them.
use Rattle.std.specs.Prelude.{ℕ, ◌==◌, Bool, not, ◌&&◌, nat_le, if◌then◌else◌, List, [], ◌∷◌, ◌++◌, codes}
use Rattle.std.specs.List.{flat_map}
use Rattle.hex.specs.Hex.{encode_lower}
use Rattle.aprs_io.specs.Octet.{octet}

-- Whether a byte is 20 to 7E, in hexadecimal, and no backslash.
abbrev pub is_shown_as_is : ℕ → Bool
is_shown_as_is b = nat_le 32 b && nat_le b 126 && not (b == octet "\\")

-- What a byte is shown as: itself where `is_shown_as_is` holds, and otherwise a backslash, x and
-- two lower case hexadecimal digits.
abbrev pub shown_byte : ℕ → List ℕ
shown_byte b = if is_shown_as_is b then b ∷ [] else codes "\\x" ++ encode_lower (b ∷ [])

-- The bytes as they are shown.
abbrev pub shown_text : List ℕ → List ℕ
shown_text bytes = flat_map shown_byte bytes
