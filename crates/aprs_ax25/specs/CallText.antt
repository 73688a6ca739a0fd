-- Which bytes are the text of a callsign, and what is wrong with others.
use Rattle.std.specs.Prelude.{◌≡◌, ℕ, ◌<◌, ◌==◌, ◌⊎◌, Bool, false, List, length, drop}
use Rattle.std.specs.List.{list_all, before_first}
use Rattle.aprs_io.specs.Octet.{octet}
use Rattle.aprs_ax25.specs.Callsign.{Call, IsCall, is_callsign_byte, call_text, ssid_text}
use Rattle.aprs_ax25.specs.Fault.{call_fault_number}
use Rattle.aprs_ax25.specs.declared.fault.CallFault.{CallFault}
use Rattle.aprs_ax25.specs.declared.fault.CallFault.TheVariants.{Length, Character, Ssid}

-- The bytes are the text of this callsign.
pub record SpellsCall (c : Call) (text : List ℕ) : Type 0 where
  pub call : IsCall c
  pub spelled : text ≡ call_text c

-- The byte is a dash.
abbrev pub is_dash : ℕ → Bool
is_dash byte = byte == octet "-"

-- The part of a text before its first dash, or all of it.
abbrev pub before_dash : List ℕ → List ℕ
before_dash text = before_first is_dash text

-- The part of a text from its first dash on.
abbrev pub from_dash : List ℕ → List ℕ
from_dash text = drop (length (before_dash text)) text

-- The text names this SSID: an empty text names 0, and a dash and a number from 1 to 15, without
-- a leading zero, that number.
pub record NamesSsid (ssid : ℕ) (text : List ℕ) : Type 0 where
  pub range : ssid < 16
  pub spelled : text ≡ ssid_text ssid

-- What each fault says of a text: the part before the first dash isn't 1 to 6 bytes long; not all
-- of it are capitals and digits; the part from the dash on names no SSID.
abbrev pub IsWrongCall : CallFault → List ℕ → Type 0
IsWrongCall Length text = (length (before_dash text) ≡ 0) ⊎ (6 < length (before_dash text))
IsWrongCall Character text = list_all is_callsign_byte (before_dash text) ≡ false
IsWrongCall Ssid text = (ssid : ℕ) → NamesSsid ssid (from_dash text) → ⊥

-- What the fault says is true of the text, and what any fault with a smaller number says isn't.
pub record FirstCallFault (text : List ℕ) (fault : CallFault) : Type 0 where
  pub wrong : IsWrongCall fault text
  pub first : (other : CallFault) → call_fault_number other < call_fault_number fault
      → IsWrongCall other text → ⊥
