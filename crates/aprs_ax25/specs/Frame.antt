-- UI frames as APRS sends them: AX.25 2.2, section 3; APRS Protocol Reference 1.0.1, chapter 3.
use Rattle.std.specs.Prelude.{◌≡◌, ℕ, ◌<◌, ◌≤◌, List, [], ◌∷◌, ◌++◌, length}
use Rattle.std.specs.List.{AllByRecursion}
use Rattle.aprs_ax25.specs.Address.{Address, IsAddress, address_octets}

-- The parts of a frame.
pub record Parts : Type 0 where
  pub destination : Address
  pub source : Address
  pub digipeaters : List Address
  pub info : List ℕ

-- The octets of the addresses, one after another; the extension bit is 1 in the last alone.
abbrev pub address_field : List Address → List ℕ
address_field [] = []
address_field (last ∷ []) = address_octets 1 last
address_field (first ∷ next ∷ more) = address_octets 0 first ++ address_field (next ∷ more)

-- The control octet of a UI frame without poll.
abbrev pub control_ui : ℕ
control_ui = 0x03

-- The PID octet of a frame without a layer 3 protocol.
abbrev pub pid_none : ℕ
pid_none = 0xF0

-- The bytes of a frame: the address field, control 03 (UI), PID F0 (no layer 3) and the
-- information.
abbrev pub spelling : Parts → List ℕ
spelling parts =
    address_field (parts.destination ∷ parts.source ∷ parts.digipeaters)
    ++ control_ui ∷ pid_none ∷ parts.info

-- A frame may have these parts: at most 8 digipeaters, and 1 to 256 bytes of information.
pub record IsParts (parts : Parts) : Type 0 where
  pub destination : IsAddress parts.destination
  pub source : IsAddress parts.source
  pub digipeaters : AllByRecursion IsAddress parts.digipeaters
  pub few : length parts.digipeaters ≤ 8
  pub some : 0 < length parts.info
  pub most : length parts.info ≤ 256

-- The bytes are the frame of these parts.
pub record FrameOf (made_of : Parts) (bytes : List ℕ) : Type 0 where
  pub parts : IsParts made_of
  pub spelled : bytes ≡ spelling made_of
