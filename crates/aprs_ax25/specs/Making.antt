-- What a frame is made of, and when none is made.
use Rattle.std.specs.Prelude.{ℕ, nat_lt, ◌==◌, if◌then◌else◌, List, map, Option, None, Some}
use Rattle.aprs_ax25.specs.Callsign.{Call}
use Rattle.aprs_ax25.specs.Address.{Address}
use Rattle.aprs_ax25.specs.Frame.{Parts}
use Rattle.aprs_ax25.specs.declared.hop.Hop.{Hop}
use Rattle.aprs_ax25.specs.declared.fault.MakeFault.{MakeFault}
use Rattle.aprs_ax25.specs.declared.fault.MakeFault.TheVariants.{Hops, NoInfo, LongInfo}

-- A digipeater's address: the H bit says whether it has repeated the frame, and both reserved bits
-- are 1.
abbrev pub hop_address : Hop → Address
hop_address hop = record { call = hop.call; flags = (if hop.repeated then 7 else 3) }

-- The destination's address in a command: its C bit and both reserved bits are 1.
abbrev pub destination_address : Call → Address
destination_address call = record { call = call; flags = 7 }

-- The source's address in a command: its C bit is 0, and both reserved bits are 1.
abbrev pub source_address : Call → Address
source_address call = record { call = call; flags = 3 }

-- The parts of the frame that is made of these.
abbrev pub made_parts : Call → Call → List Hop → List ℕ → Parts
made_parts destination source hops info = record {
  destination = destination_address destination;
  source = source_address source;
  digipeaters = map hop_address hops;
  info = info;
}

-- The first fault of this many digipeaters and bytes of information, if they make no frame.
abbrev pub make_fault : ℕ → ℕ → Option MakeFault
make_fault hops info = if nat_lt 8 hops then Some Hops
    else (if info == 0 then Some NoInfo else (if nat_lt 256 info then Some LongInfo else None))
