-- What is wrong with bytes that are no frame, and what the parts of a frame's bytes are.
use Rattle.std.specs.Prelude.{ℕ, ◌+◌, ◌/◌, ◌%◌, ◌==◌, Bool, not, ◌&&◌, nat_le, nat_lt, List, []}
use Rattle.std.specs.Prelude.{◌∷◌, length, take, drop, map, slice_index, Option, None, Some, Result}
use Rattle.std.specs.Prelude.{Ok, Err, suc, zero}
use Rattle.std.specs.List.{list_all, find, position_or_len}
use Rattle.aprs_ax25.specs.Callsign.{Call, is_callsign_byte}
use Rattle.aprs_ax25.specs.Address.{Address}
use Rattle.aprs_ax25.specs.Frame.{Parts, control_ui, pid_none}
use Rattle.aprs_ax25.specs.declared.fault.FrameFault.{FrameFault}
use Rattle.aprs_ax25.specs.declared.fault.FrameFault.TheVariants.{Address as AddressFault, Callsign}
use Rattle.aprs_ax25.specs.declared.fault.FrameFault.TheVariants.{Control, Pid, NoInfo, LongInfo}

-- Bit 0 of the octet is 1.
abbrev pub ends_field : ℕ → Bool
ends_field octet = octet % 2 == 1

-- The number of the first octet whose bit 0 is 1, counted from 1: so many octets the address field
-- has. Where there is no such octet, one more than there are octets.
abbrev pub field_len : List ℕ → ℕ
field_len bytes = position_or_len ends_field bytes + 1

-- n octets are 2 to 10 addresses of seven octets each.
abbrev pub is_field_len : ℕ → Bool
is_field_len n = n % 7 == 0 && nat_le 14 n && nat_le n 70

-- The first n pieces of seven octets each. Where the octets run out, a piece has fewer or none.
abbrev pub sevens : ℕ → List ℕ → List (List ℕ)
sevens zero bytes = []
sevens (suc n) bytes = take 7 bytes ∷ sevens n (drop 7 bytes)

-- Shifted right by one bit, the octet is neither a capital nor a digit, so a callsign has ended.
abbrev pub ends_characters : ℕ → Bool
ends_characters octet = not (is_callsign_byte (octet / 2))

-- How many of an address's first six octets stand before the first that is no capital or digit,
-- shifted right by one bit; six where all are.
abbrev pub characters_len : List ℕ → ℕ
characters_len octets = position_or_len ends_characters (take 6 octets)

-- Shifted right by one bit, the octet is a space.
abbrev pub is_space_octet : ℕ → Bool
is_space_octet octet = octet / 2 == 32

-- The first six octets of an address, shifted right by one bit, are 1 to 6 capitals or digits, and
-- then spaces alone.
abbrev pub has_callsign : List ℕ → Bool
has_callsign octets = nat_lt 0 (characters_len octets) && list_all is_space_octet
    (drop (characters_len octets) (take 6 octets))

-- The octets of the address field: all to the one that ends it, and that one. Where none ends it,
-- all octets.
abbrev pub field_of : List ℕ → List ℕ
field_of bytes = take (field_len bytes) bytes

-- The octets after the address field. Where no octet ends it, there are none.
abbrev pub after_field : List ℕ → List ℕ
after_field bytes = drop (field_len bytes) bytes

-- The addresses of the field, of seven octets each.
abbrev pub addresses : List ℕ → List (List ℕ)
addresses bytes = sevens (length (field_of bytes) / 7) (field_of bytes)

-- What each fault says of the bytes, in this order: the field isn't 2 to 10 addresses; an address
-- has no callsign; control isn't UI; PID isn't "no layer 3"; there is no information, or more than
-- 256 bytes of it. `slice_index` is 0 past the end.
abbrev pub has_frame_fault : FrameFault → List ℕ → Bool
has_frame_fault AddressFault bytes =
    not (nat_le (field_len bytes) (length bytes) && is_field_len (field_len bytes))
has_frame_fault Callsign bytes = not (list_all has_callsign (addresses bytes))
has_frame_fault Control bytes = not (slice_index (after_field bytes) 0 == control_ui)
has_frame_fault Pid bytes = not (slice_index (after_field bytes) 1 == pid_none)
has_frame_fault NoInfo bytes = nat_le (length (after_field bytes)) 2
has_frame_fault LongInfo bytes = nat_lt 258 (length (after_field bytes))

-- The first fault that is true of the bytes.
abbrev pub frame_fault : List ℕ → Option FrameFault
frame_fault bytes =
    find (λ fault. has_frame_fault fault bytes)
    (AddressFault ∷ Callsign ∷ Control ∷ Pid ∷ NoInfo ∷ LongInfo ∷ [])

-- The bytes, unless there is a fault.
abbrev pub unless_fault : List ℕ → Option FrameFault → Result (List ℕ) FrameFault
unless_fault bytes None = Ok bytes
unless_fault bytes (Some fault) = Err fault

-- What reading the bytes gives: the bytes, or their first fault.
abbrev pub frame_or_fault : List ℕ → Result (List ℕ) FrameFault
frame_or_fault bytes = unless_fault bytes (frame_fault bytes)

-- ---- the parts of bytes that are a frame

-- The callsign that the octets of an address spell.
abbrev pub call_of : List ℕ → Call
call_of octets = record {
  characters = map (λ o. o / 2) (take (characters_len octets) octets);
  ssid = (slice_index octets 6 / 2) % 16;
}

-- The address that seven octets spell.
abbrev pub address_of : List ℕ → Address
address_of octets = record { call = call_of octets; flags = slice_index octets 6 / 32 }

-- The parts that the bytes of a frame spell.
abbrev pub parts_of : List ℕ → Parts
parts_of bytes = record {
  destination = address_of (take 7 bytes);
  source = address_of (take 7 (drop 7 bytes));
  digipeaters = map address_of (drop 2 (addresses bytes));
  info = drop 2 (after_field bytes);
}
