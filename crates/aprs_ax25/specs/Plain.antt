-- What is seen of addresses in one pass. No public clause cites this module.
use Rattle.std.specs.Prelude.{◌≡◌, ℕ, ◌+◌, ◌*◌, ◌/◌, ◌%◌, ◌==◌, Bool, true, ◌&&◌, ◌||◌, List, [], ◌∷◌}
use Rattle.std.specs.Prelude.{take, not, nat_le}
use Rattle.std.specs.List.{list_all}
use Rattle.aprs_ax25.specs.Callsign.{is_callsign_byte}
use Rattle.aprs_ax25.specs.FrameFault.{ends_field, has_callsign}

-- The octet is a capital or a digit, shifted left by one bit: it is shifted back, and bit 0, which
-- has to be 0, would come as bit 7.
abbrev pub is_callsign_octet : ℕ → Bool
is_callsign_octet octet = is_callsign_byte (octet / 2 + 128 * (octet % 2))

-- The octets are spaces alone; or, where one before them was a letter or digit (`after_character`),
-- they may be letters and digits first.
abbrev pub characters_then_spaces : Bool → List ℕ → Bool
characters_then_spaces after_character [] = true
characters_then_spaces after_character (octet ∷ more) =
    (octet == 64 || (after_character && is_callsign_octet octet))
    && characters_then_spaces (is_callsign_octet octet) more

-- An octet that may stand after octet i of two addresses, as far as callsigns go: a letter or
-- digit at the second callsign's start, after octet 6, and after another one; a space anywhere
-- but at that start; any octet after octet 5 and from octet 12 on.
abbrev pub may_follow : ℕ → ℕ → ℕ → Bool
may_follow i before octet =
    ((i == 5 || nat_le 12 i) || (is_callsign_octet octet && (i == 6 || is_callsign_octet before)))
    || (not (i == 6) && octet == 64)

-- The first six octets are a callsign, and none of them ends the field.
pub record IsPlainAddress (octets : List ℕ) : Type 0 where
  pub callsign : has_callsign octets ≡ true
  pub even : list_all (λ octet. not (ends_field octet)) (take 6 octets) ≡ true
