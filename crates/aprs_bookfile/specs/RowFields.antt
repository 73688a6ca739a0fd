-- The fields of a row's line, as they are read. No public clause cites this module.
use Rattle.std.specs.Prelude.{◌≡◌, ◌≢◌, ◌<◌, ◌≤◌, ◌⊎◌, ℕ, List, length, Ok, IsErr}
use Rattle.hex.specs.Hex.{encode_lower, IsBytes}
use Rattle.aprs_ax25.specs.FrameFault.{frame_or_fault}
use Rattle.aprs_log.specs.declared.moment_form.MomentForm.{MomentForm}
use Rattle.aprs_transmissions.specs.Row.{Row}
use Rattle.aprs_bookfile.specs.TextFault.{HasNoFrame}
use Rattle.aprs_bookfile.specs.Text.{row_line, IsSpelled, most_frame_bytes}
use Rattle.aprs_bookfile.specs.declared.fault.BookCause.{BookCause}
use Rattle.aprs_bookfile.specs.declared.fault.BookCause.TheVariants as why

-- The digits spell these bytes, at least one and at most those of a frame.
pub record SpellsBytes (digits bytes : List ℕ) : Type 0 where
  pub digits_are : digits ≡ encode_lower bytes
  pub bytes_are : IsBytes bytes
  pub few : (0 < length bytes) × (length bytes ≤ most_frame_bytes)

-- The digits spell the bytes of this frame.
pub record SpellsFrame (digits frame : List ℕ) : Type 0 where
  pub spelled : SpellsBytes digits frame
  pub is : frame_or_fault frame ≡ Ok frame

-- The digits spell no bytes, or bytes that aren't a UI frame.
abbrev pub IsWrongFrame : List ℕ → BookCause → Type 0
IsWrongFrame digits cause =
    ((cause ≡ why.RowSyntax) × ((bytes : List ℕ) → SpellsBytes digits bytes → ⊥))
    ⊎ ((cause ≡ why.Frame)
    × ((bytes : List ℕ) × SpellsBytes digits bytes × IsErr (frame_or_fault bytes)))

-- The line spells no row, or it spells one but for its frame, whose bytes aren't a UI frame.
abbrev pub IsWrongRow : MomentForm → List ℕ → BookCause → Type 0
IsWrongRow form line cause =
    ((cause ≡ why.RowSyntax) × ((x : Row) → IsSpelled form x → line ≢ row_line form x))
    ⊎ ((cause ≡ why.Frame) × HasNoFrame form line)
