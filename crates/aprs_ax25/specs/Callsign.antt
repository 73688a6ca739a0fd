-- Callsigns and their text, as monitors print it.
use Rattle.std.specs.Prelude.{◌≡◌, ℕ, ◌<◌, ◌≤◌, ◌==◌, Bool, true, ◌&&◌, ◌||◌, nat_le, nat_eq}
use Rattle.std.specs.Prelude.{if◌then◌else◌}
use Rattle.std.specs.Prelude.{List, [], ◌∷◌, ◌++◌, length}
use Rattle.std.specs.List.{list_all}
use Rattle.std.specs.Fmt.{decimal}
use Rattle.std.specs.declared.cmp.Ordering.{Ordering}
use Rattle.std.specs.Ordering.{nat_cmp, on, then_cmp, eq_of_both}
use Rattle.aprs_io.specs.Octet.{octet}
use Rattle.aprs_ax25.specs.Order.{bytes_cmp, bytes_eq}

-- A callsign: its letters and digits, and its SSID.
pub record Call : Type 0 where
  pub characters : List ℕ
  pub ssid : ℕ

-- The byte is a capital or a digit.
abbrev pub is_callsign_byte : ℕ → Bool
is_callsign_byte byte = (nat_le 65 byte && nat_le byte 90) || (nat_le 48 byte && nat_le byte 57)

-- It is a callsign that can be: 1 to 6 capitals or digits, and an SSID of 0 to 15.
pub record IsCall (call : Call) : Type 0 where
  pub some : 0 < length call.characters
  pub most : length call.characters ≤ 6
  pub bytes : list_all is_callsign_byte call.characters ≡ true
  pub ssid : call.ssid < 16

-- The text of an SSID: nothing for 0, and otherwise a dash and the number.
abbrev pub ssid_text : ℕ → List ℕ
ssid_text ssid = if ssid == 0 then [] else octet "-" ∷ decimal ssid

-- The text of a callsign: its letters and digits, and the text of its SSID.
abbrev pub call_text : Call → List ℕ
call_text call = call.characters ++ ssid_text call.ssid

-- Callsigns are ordered by their letters and digits, and then by their SSID as a number.
abbrev pub call_cmp : Call → Call → Ordering
call_cmp = then_cmp (on (λ c. c.characters) bytes_cmp) (on (λ c. c.ssid) nat_cmp)

-- Callsigns are equal if their letters and digits and their SSIDs are.
abbrev pub call_eq : Call → Call → Bool
call_eq = eq_of_both (on (λ c. c.characters) bytes_eq) (on (λ c. c.ssid) nat_eq)
