-- Addresses of a frame: AX.25 2.2, section 3.12.
use Rattle.std.specs.Prelude.{ℕ, ◌+◌, ◌-◌, ◌*◌, ◌<◌, Bool, nat_le, List, [], ◌∷◌, ◌++◌, length, map}
use Rattle.std.specs.Prelude.{replicate}
use Rattle.aprs_ax25.specs.Callsign.{Call, IsCall}

-- An address is a callsign and the three high bits of its last octet: the C or H bit, and two
-- reserved ones.
pub record Address : Type 0 where
  pub call : Call
  pub flags : ℕ

-- It has a callsign that can be, and its flags are three bits.
pub record IsAddress (address : Address) : Type 0 where
  pub call : IsCall address.call
  pub flags : address.flags < 8

-- The letters and digits of a callsign, and then spaces up to six bytes.
abbrev pub characters_and_spaces : List ℕ → List ℕ
characters_and_spaces characters = characters ++ replicate (6 - length characters) 32

-- The seven octets of an address: letters, digits and spaces, shifted left by one bit, and an octet
-- of the flags, the SSID and the extension bit.
abbrev pub address_octets : ℕ → Address → List ℕ
address_octets extension address =
    map (λ b. 2 * b) (characters_and_spaces address.call.characters)
    ++ (32 * address.flags + 2 * address.call.ssid + extension) ∷ []

-- The H bit is 1: the digipeater has repeated the frame.
abbrev pub is_repeated : Address → Bool
is_repeated address = nat_le 4 address.flags
