-- Prefixes of keys.
use Rattle.std.specs.Prelude.{◌≡◌, ℕ, ◌<◌, List, [], ◌∷◌, ◌++◌, slice_index}
use Rattle.std.specs.Int.{w64, from_be_bytes}
use Rattle.aprs_ax25.specs.Callsign.{Call}
use Rattle.aprs_ax25.specs.Address.{characters_and_spaces}
use Rattle.aprs_ax25.specs.Frame.{FrameOf}
use Rattle.aprs_ax25.specs.FrameFault.{parts_of}
use Rattle.aprs_transmissions.specs.Key.{Key, key_of}
use Rattle.aprs_rows.specs.declared.row.key_prefix.KeyPrefix.{KeyPrefix}

-- The number of a callsign, base 256: its letters and digits, padded with spaces to six, and its
-- SSID.
abbrev pub call_number : Call → ℕ
call_number call = from_be_bytes w64 (0 ∷ characters_and_spaces call.characters ++ call.ssid ∷ [])

-- The prefix of a key: the numbers of the callsigns, and of the first eight bytes of the
-- information, base 256. `from_be_bytes` reads zeros where there are fewer.
unfoldable pub key_prefix_of : Key → KeyPrefix
key_prefix_of key = record {
  source = call_number key.source;
  destination = call_number key.destination;
  info = from_be_bytes w64 key.info;
}

-- The bytes are a frame, and this is the prefix of its key.
pub record HasKeyPrefix (h : KeyPrefix) (f : List ℕ) : Type 0 where
  pub frame : FrameOf (parts_of f) f
  pub bytes : (i : ℕ) → slice_index (parts_of f).info i < 256
  pub head : h ≡ key_prefix_of (key_of f)
