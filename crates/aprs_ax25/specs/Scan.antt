-- What the steps of reading a frame return.
use Rattle.std.specs.Prelude.{◌≡◌, ℕ, ◌==◌, true, false, not, nat_le, nat_lt, if◌then◌else◌, List}
use Rattle.std.specs.Prelude.{length, slice_index, Option, None, Some, MatchOption, Result}
use Rattle.std.specs.Prelude.{MatchResult}
use Rattle.std.specs.Prelude.{[], ◌∷◌, ◌-◌, Bool, ◌&&◌, is_none}
use Rattle.std.specs.List.{list_all, find}
use Rattle.aprs_ax25.specs.Callsign.{is_callsign_byte}
use Rattle.aprs_ax25.specs.CallText.{before_dash, from_dash}
use Rattle.aprs_ax25.specs.declared.fault.CallFault.{CallFault}
use Rattle.aprs_ax25.specs.declared.fault.CallFault.TheVariants.{Length, Character, Ssid}
use Rattle.std.specs.Borrow.{Bor}
use Rattle.aprs_ax25.specs.Frame.{control_ui, pid_none}
use Rattle.aprs_ax25.specs.FrameFault.{field_of, after_field, has_frame_fault}
use Rattle.aprs_ax25.specs.declared.fault.FrameFault.{FrameFault}
use Rattle.aprs_ax25.specs.declared.fault.FrameFault.TheVariants.{Address, Control, Pid, NoInfo}
use Rattle.aprs_ax25.specs.declared.fault.FrameFault.TheVariants.{LongInfo}

-- The bytes are split after the address field, unless this is no field.
abbrev pub SplitsField : Option (Bor (List ℕ) × Bor (List ℕ)) → List ℕ → Type 0
SplitsField r bytes = MatchOption r (has_frame_fault Address bytes ≡ true)
    (λ p. (has_frame_fault Address bytes ≡ false) × (p.0.now ≡ field_of bytes)
    × (p.1.now ≡ after_field bytes))

-- The fault of this many bytes of information, if there is one.
abbrev pub fault_of_info : ℕ → Option FrameFault
fault_of_info len = if len == 0 then Some NoInfo
    else (if nat_lt 256 len then Some LongInfo else None)

-- The first fault of what stands after the address field. `slice_index` is 0 past the end, so that
-- a missing control or PID octet is a wrong one.
abbrev pub fault_after_field : List ℕ → Option FrameFault
fault_after_field rest =
    if not (slice_index rest 0 == control_ui) then Some Control
    else (if not (slice_index rest 1 == pid_none) then Some Pid
    else (if nat_le (length rest) 2 then Some NoInfo
    else (if nat_lt 258 (length rest) then Some LongInfo else None)))

-- The SSID that the end of a callsign's text names, by its digits: an empty end names 0. The first
-- byte isn't looked at: it is taken for the dash.
abbrev pub ssid_of : List ℕ → Option ℕ
ssid_of [] = Some 0
ssid_of (dash ∷ []) = None
ssid_of (dash ∷ d ∷ []) = if nat_le 49 d && nat_le d 57 then Some (d - 48) else None
ssid_of (dash ∷ c ∷ d ∷ []) = if c == 49 && nat_le 48 d && nat_le d 53 then Some (d - 38) else None
ssid_of (dash ∷ b ∷ c ∷ d ∷ more) = None

-- What each fault says of a callsign's text, as a test.
abbrev pub has_call_fault : CallFault → List ℕ → Bool
has_call_fault Length text =
    not (nat_le 1 (length (before_dash text)) && nat_le (length (before_dash text)) 6)
has_call_fault Character text = not (list_all is_callsign_byte (before_dash text))
has_call_fault Ssid text = is_none (ssid_of (from_dash text))

-- The first fault of a callsign's text.
abbrev pub call_fault : List ℕ → Option CallFault
call_fault text = find (λ fault. has_call_fault fault text) (Length ∷ Character ∷ Ssid ∷ [])

-- The letters and digits and the SSID of a callsign's text, or its first fault.
abbrev pub AreCallParts : List ℕ → Result (Bor (List ℕ) × ℕ) CallFault → Type 0
AreCallParts text r = MatchResult r
    (λ p. (call_fault text ≡ None) × (p.0.now ≡ before_dash text)
    × (ssid_of (from_dash text) ≡ Some p.1))
    (λ fault. call_fault text ≡ Some fault)
