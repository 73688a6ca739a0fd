-- What a frame says, and who passed it on.
use Rattle.std.specs.Prelude.{ℕ, List, Option, None, Some}
use Rattle.std.specs.Option.{option_map}
use Rattle.aprs_ax25.specs.Callsign.{Call}
use Rattle.aprs_details.specs.ThirdParty.{Passed, passed_of}
use Rattle.aprs_transmissions.specs.Key.{Key}
use Rattle.aprs_summary.specs.MessageRows.{spelled_call}
use Rattle.aprs_lists.specs.declared.said.Said.{Said as SaidParts}

-- Who sent what is said, the station that passed it on, or none where the sender itself was heard,
-- and the information.
pub record Said : Type 0 where
  pub source : Call
  pub gate : Option Call
  pub info : List ℕ

-- What the parts of the code say.
abbrev pub said_view : SaidParts → Said
said_view x = record { source = x.source; gate = x.gate; info = x.info.now }

-- What is said with a passed frame, of which this callsign is the source.
abbrev pub passed_said : Call → List ℕ → Call → Said
passed_said gate info source = record { source = source; gate = Some gate; info = info }

-- What a station says with this information: what the frame says that it passes on, if it passes on
-- one. That says nothing if its source isn't the text of a callsign.
abbrev pub said_by : Call → List ℕ → Option Passed → Option Said
said_by from info None = Some (record { source = from; gate = None; info = info })
said_by from info (Some p) = option_map (passed_said from p.info) (spelled_call p.source)

-- What the frames of a key say.
abbrev pub said_in : Key → Option Said
said_in k = said_by k.source k.info (passed_of k.info)
