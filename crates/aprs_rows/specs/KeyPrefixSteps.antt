-- How prefixes are made of octets, and their order. No public clause cites this module.
use Rattle.std.specs.Prelude.{ℕ, ◌/◌, ◌%◌, List, [], ◌∷◌, ◌++◌, map, take, slice_index}
use Rattle.std.specs.Int.{w64, from_be_bytes}
use Rattle.std.specs.Ordering.{nat_cmp, on, then_cmp}
use Rattle.std.specs.declared.cmp.Ordering.{Ordering}
use Rattle.aprs_rows.specs.declared.row.key_prefix.KeyPrefix.{KeyPrefix}

-- The number of a callsign, of the seven octets of an address: letters, digits and spaces are the
-- first six, shifted right by one bit, and the SSID is bits 1 to 4 of the last.
abbrev pub octets_number : List ℕ → ℕ
octets_number octets =
    from_be_bytes w64
    (0 ∷ map (λ o. o / 2) (take 6 octets) ++ slice_index octets 6 / 2 % 16 ∷ [])

-- Prefixes are ordered by the number of the source, then of the destination, then of the
-- information.
abbrev pub head_cmp : KeyPrefix → KeyPrefix → Ordering
head_cmp = then_cmp (on (λ h. h.source) nat_cmp)
    (then_cmp (on (λ h. h.destination) nat_cmp) (on (λ h. h.info) nat_cmp))
