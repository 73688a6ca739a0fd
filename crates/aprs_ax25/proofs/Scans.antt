-- Lemmas on the steps of looking for a frame's first fault.
use Rattle.std.proofs.Common.{◌≡◌, ℕ, ◌/◌, ◌≤◌, ◌<◌, suc, List, ◌∷◌, length, take, drop, Bool, false, ◌&&◌, arith, sym, ap, ◌∙◌, refl}
use Rattle.std.specs.List.{list_all}
use Rattle.std.proofs.lemmas.List.{length-drop}
use Rattle.std.proofs.lemmas.Bool.{lt-ltb}
use Rattle.aprs_ax25.specs.FrameFault.{characters_len, has_callsign, is_space_octet, sevens, has_frame_fault, frame_fault, after_field}
use Rattle.aprs_ax25.specs.Scan.{fault_after_field}
use Rattle.aprs_ax25.specs.declared.fault.FrameFault.TheVariants.{Address, Callsign}

-- a callsign is found where letters stand before the spaces
pub has_callsign_at : (octets : List ℕ) (n : ℕ) (b : Bool) → n ≡ characters_len octets → 0 < n
    → b ≡ list_all is_space_octet (drop n (take 6 octets)) → b ≡ has_callsign octets
has_callsign_at octets n b e lt h =
    let some : 0 < characters_len octets = omega arith in
    h ∙ ap (λ k. list_all is_space_octet (drop k (take 6 octets))) e
    ∙ ap (λ t. t && list_all is_space_octet (drop (characters_len octets) (take 6 octets)))
    (sym (lt-ltb 0 (characters_len octets) some))

-- seven octets or more: a first piece and the pieces of the others
pub sevens-more : (bytes : List ℕ) → 7 ≤ length bytes
    → sevens (length bytes / 7) bytes
    ≡ take 7 bytes ∷ sevens (length (drop 7 bytes) / 7) (drop 7 bytes)
sevens-more bytes h =
    let e : length bytes / 7 ≡ suc (length (drop 7 bytes) / 7) =
    omega (arith, length-drop 7 bytes) in
    ap (λ n. sevens n bytes) e

pub frame_fault-after : (bytes : List ℕ) → has_frame_fault Address bytes ≡ false → has_frame_fault Callsign bytes
    ≡ false
    → fault_after_field (after_field bytes) ≡ frame_fault bytes
frame_fault-after bytes h k = rw (h, k) refl

-- each of the addresses has a callsign
abbrev pub all_have : List ℕ → Bool
all_have bytes = list_all has_callsign (sevens (length bytes / 7) bytes)

-- of seven octets or more: the first address has one, and each of the others
pub all_have-more : (bytes first after : List ℕ) (b d : Bool) → 7 ≤ length bytes → first
    ≡ take 7 bytes → after ≡ drop 7 bytes
    → b ≡ has_callsign first → b ≡ d → all_have bytes ≡ d && all_have after
all_have-more bytes first after b d h f r e k =
    ap (list_all has_callsign) (sevens-more bytes h)
    ∙ ap (λ x. has_callsign x && all_have (drop 7 bytes)) (sym f)
    ∙ ap (λ x. has_callsign first && all_have x) (sym r)
    ∙ ap (λ x. x && all_have after) (sym e ∙ k)
