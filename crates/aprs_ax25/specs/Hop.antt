-- A digipeater as a frame's address has it, and as monitors print it.
use Rattle.std.specs.Prelude.{ℕ, if◌then◌else◌, List, [], ◌∷◌, ◌++◌}
use Rattle.aprs_io.specs.Octet.{octet}
use Rattle.aprs_ax25.specs.Address.{Address, is_repeated}
use Rattle.aprs_ax25.specs.Callsign.{call_text}
use Rattle.aprs_ax25.specs.declared.hop.Hop.{Hop}

-- The digipeater of an address.
abbrev pub hop_of : Address → Hop
hop_of address = record { call = address.call; repeated = is_repeated address }

-- A comma, the digipeater, and a star where it has repeated the frame.
abbrev pub hop_text : Hop → List ℕ
hop_text hop = octet "," ∷ call_text hop.call ++ (if hop.repeated then octet "*" ∷ [] else [])
