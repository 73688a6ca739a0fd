-- How few bytes a frame may have.
use Rattle.std.proofs.Common.{◌≤◌, ℕ, List, [], ◌∷◌, ◌++◌, length, ap, arith}
use Rattle.std.proofs.lemmas.List.{length-append}
use Rattle.aprs_ax25.specs.Address.{Address, IsAddress, address_octets}
use Rattle.aprs_ax25.specs.Frame.{FrameOf, Parts, address_field, control_ui, pid_none}
use Rattle.aprs_ax25.proofs.Addresses.{length-address_octets}

-- two addresses, and maybe more
least_field : (d s : Address) (more : List Address) → IsAddress d → IsAddress s
    → 14 ≤ length (address_field (d ∷ s ∷ more))
least_field d s [] first second = omega (
  arith,
  length-append (address_octets 0 d) (address_octets 1 s),
  length-address_octets 0 d first,
  length-address_octets 1 s second,
)
least_field d s (x ∷ more) first second = omega (
  arith,
  length-append (address_octets 0 d) (address_octets 0 s ++ address_field (x ∷ more)),
  length-append (address_octets 0 s) (address_field (x ∷ more)),
  length-address_octets 0 d first,
  length-address_octets 0 s second,
)

-- a frame has two addresses, control, PID and a byte of information
pub FrameOf-least : (p : Parts) (bytes : List ℕ) → FrameOf p bytes → 17 ≤ length bytes
FrameOf-least p bytes f =
    let field = address_field (p.destination ∷ p.source ∷ p.digipeaters) in omega (
      arith,
      ap length f.spelled,
      length-append field (control_ui ∷ pid_none ∷ p.info),
      least_field p.destination p.source p.digipeaters f.parts.destination f.parts.source,
      f.parts.some,
    )
