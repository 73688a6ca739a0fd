-- Bytes that are a UI frame: AX.25 2.2, section 3; APRS Protocol Reference 1.0.1, chapter 3.
use Rattle.std.specs.Prelude.{◌≡◌, ◌≤◌, ◌<◌, ◌%◌, ℕ, true, List, length, slice_index}
use Rattle.std.specs.List.{list_all}
use Rattle.aprs_ax25.specs.Frame.{control_ui, pid_none}
use Rattle.aprs_ax25.specs.FrameFault.{addresses, after_field, field_len, has_callsign}

-- The bytes are a UI frame: 2 to 10 addresses of seven octets, each with a callsign, then control
-- UI and PID "no layer 3", and 1 to 256 bytes of information.
pub record IsUiFrame (bytes : List ℕ) : Type 0 where
  pub within : field_len bytes ≤ length bytes
  pub sevenfold : field_len bytes % 7 ≡ 0
  pub size : (14 ≤ field_len bytes) × (field_len bytes ≤ 70)
  pub callsigns : list_all has_callsign (addresses bytes) ≡ true
  pub control : slice_index (after_field bytes) 0 ≡ control_ui
  pub pid : slice_index (after_field bytes) 1 ≡ pid_none
  pub info : (2 < length (after_field bytes)) × (length (after_field bytes) ≤ 258)
