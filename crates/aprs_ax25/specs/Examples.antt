-- Worked examples of the definitions: the frames that AX.25 2.2 shows byte by byte in section 3.12.
use Rattle.std.specs.Prelude.{ℕ, zero, suc, true, List, [], ◌∷◌, ◌++◌, codes, replicate}
use Rattle.aprs_ax25.specs.declared.hop.Hop.{Hop}
use Rattle.aprs_ax25.specs.Callsign.{Call}
use Rattle.aprs_ax25.specs.Address.{Address}
use Rattle.aprs_ax25.specs.Frame.{Parts}

-- The callsign of these letters and this SSID.
abbrev pub callsign : List ℕ → ℕ → Call
callsign characters ssid = record { characters = characters; ssid = ssid }

-- The station that the frames are sent to.
abbrev pub nj7p : Call
nj7p = callsign (codes "NJ7P") 0

-- The station that sends them.
abbrev pub n7lem : Call
n7lem = callsign (codes "N7LEM") 0

-- The digipeater that repeats the second of them.
abbrev pub n7oo : Call
n7oo = callsign (codes "N7OO") 1

-- The destination's address: NJ7P in a command.
abbrev pub to_nj7p : List ℕ
to_nj7p = 0x9C ∷ 0x94 ∷ 0x6E ∷ 0xA0 ∷ 0x40 ∷ 0x40 ∷ 0xE0 ∷ []

-- The source's address: N7LEM, with this last octet.
abbrev pub from_n7lem : ℕ → List ℕ
from_n7lem last = 0x9C ∷ 0x6E ∷ 0x98 ∷ 0x8A ∷ 0x9A ∷ 0x40 ∷ last ∷ []

-- The source's address with a space before its letters, so no callsign, and with this last octet.
abbrev pub no_callsign : ℕ → List ℕ
no_callsign last = 0x40 ∷ 0x6E ∷ 0x98 ∷ 0x8A ∷ 0x9A ∷ 0x40 ∷ last ∷ []

-- The digipeater's address: N7OO-1, with this last octet.
abbrev pub by_n7oo : ℕ → List ℕ
by_n7oo last = 0x9C ∷ 0x6E ∷ 0x9E ∷ 0x9E ∷ 0x40 ∷ 0x40 ∷ last ∷ []

-- What stands after the addresses: control, PID and `>Hi`.
abbrev pub hi_after : ℕ → ℕ → List ℕ
hi_after control pid = control ∷ pid ∷ codes ">Hi"

-- The addresses of the first frame, which no digipeater repeats.
abbrev pub direct_field : List ℕ
direct_field = to_nj7p ++ from_n7lem 0x61

-- The addresses of the second frame, which N7OO-1 has repeated.
abbrev pub repeated_field : List ℕ
repeated_field = to_nj7p ++ from_n7lem 0x60 ++ by_n7oo 0xE3

-- The first frame, as a UI frame that says `>Hi`.
abbrev pub direct_frame : List ℕ
direct_frame = direct_field ++ hi_after 0x03 0xF0

-- The second frame, as a UI frame that says `>Hi`.
abbrev pub repeated_frame : List ℕ
repeated_frame = repeated_field ++ hi_after 0x03 0xF0

-- The address of this callsign, with these flags.
abbrev pub address_with : Call → ℕ → Address
address_with call flags = record { call = call; flags = flags }

-- The parts of a frame from N7LEM to NJ7P that says `>Hi`, through these digipeaters.
abbrev pub parts_through : List Address → Parts
parts_through digipeaters = record {
  destination = address_with nj7p 7;
  source = address_with n7lem 3;
  digipeaters = digipeaters;
  info = codes ">Hi";
}

-- N7OO-1, which has repeated the frame.
abbrev pub through_n7oo : Hop
through_n7oo = record { call = n7oo; repeated = true }

-- This many addresses of N7OO-1, none of which ends the field.
abbrev pub more_by_n7oo : ℕ → List ℕ
more_by_n7oo zero = []
more_by_n7oo (suc n) = by_n7oo 0xE2 ++ more_by_n7oo n

-- The addresses of a frame through n + 1 digipeaters.
abbrev pub field_through : ℕ → List ℕ
field_through n = to_nj7p ++ from_n7lem 0x60 ++ more_by_n7oo n ++ by_n7oo 0xE3

-- The letter A, n times.
abbrev pub letters_a : ℕ → List ℕ
letters_a n = replicate n 65
