-- Bytes are a UI frame exactly where reading accepts them.
use Rattle.std.proofs.Common.{◌≡◌, ℕ, List, Option, None, Some, Ok, refl, ap}
use Rattle.aprs_ax25.specs.FrameFault.{frame_fault, frame_or_fault, unless_fault}
use Rattle.aprs_ax25.specs.UiFrame.{IsUiFrame}
use Rattle.aprs_ax25.specs.declared.fault.FrameFault.{FrameFault}
use Rattle.aprs_ax25.proofs.Sounds.{frame_fault-IsSound, IsSound-frame_fault}

no_fault : (bytes : List ℕ) (fault : Option FrameFault) (frame : List ℕ)
    → unless_fault bytes fault ≡ Ok frame → fault ≡ None
no_fault bytes None frame e = refl
no_fault bytes (Some fault) frame e = absurd cc

-- what reading returns is the bytes themselves
same_frame : (bytes : List ℕ) (fault : Option FrameFault) (frame : List ℕ)
    → unless_fault bytes fault ≡ Ok frame → bytes ≡ frame
same_frame bytes None frame e = cc
same_frame bytes (Some fault) frame e = absurd cc

pub frame_of-same : (bytes frame : List ℕ) → frame_or_fault bytes ≡ Ok frame → bytes ≡ frame
frame_of-same bytes frame e = same_frame bytes (frame_fault bytes) frame e

pub frame_of-is : (bytes frame : List ℕ) → frame_or_fault bytes ≡ Ok frame → IsUiFrame bytes
frame_of-is bytes frame e =
    frame_fault-IsSound bytes (no_fault bytes (frame_fault bytes) frame e)

pub is-frame_of : (bytes : List ℕ) → IsUiFrame bytes → frame_or_fault bytes ≡ Ok bytes
is-frame_of bytes u = ap (unless_fault bytes) (IsSound-frame_fault bytes u)
