-- The key of a frame, which copies of it have too, and the order of keys.
use Rattle.std.specs.Prelude.{ℕ, List, take, drop}
use Rattle.std.specs.Ordering.{on, then_cmp}
use Rattle.std.specs.declared.cmp.Ordering.{Ordering}
use Rattle.aprs_ax25.specs.Callsign.{Call, call_cmp}
use Rattle.aprs_ax25.specs.Frame.{Parts}
use Rattle.aprs_ax25.specs.FrameFault.{after_field, call_of}
use Rattle.aprs_log.specs.Reception.{bytes_cmp}

-- The source, the destination and the information of a frame. The digipeaters and the C, H and
-- reserved bits change on the way, and are no part of it.
pub record Key : Type 0 where
  pub source : Call
  pub destination : Call
  pub info : List ℕ

-- The key of a frame's bytes: the callsigns of its second address and of its first, and what
-- follows control and PID.
unfoldable pub key_of : List ℕ → Key
key_of frame = record {
  source = call_of (take 7 (drop 7 frame));
  destination = call_of (take 7 frame);
  info = drop 2 (after_field frame);
}

-- The key of a frame's parts.
abbrev pub key_of_parts : Parts → Key
key_of_parts p = record { source = p.source.call; destination = p.destination.call; info = p.info }

-- Keys are ordered by source, then destination, then the bytes of the information.
unfoldable pub key_cmp : Key → Key → Ordering
key_cmp = then_cmp (on (λ k. k.source) call_cmp)
    (then_cmp (on (λ k. k.destination) call_cmp) (on (λ k. k.info) bytes_cmp))
