-- Addresses and information that are those of a frame. No public clause cites this module.
use Rattle.std.specs.Prelude.{◌≡◌, ℕ, List}
use Rattle.aprs_ax25.specs.Callsign.{Call}
use Rattle.aprs_transmissions.specs.Key.{key_of}

-- A source, a destination and information that are those of a frame.
pub record IsKeyed (from to : Call) (text bytes : List ℕ) : Type 0 where
  pub source : from ≡ (key_of bytes).source
  pub destination : to ≡ (key_of bytes).destination
  pub info : text ≡ (key_of bytes).info
