-- What holds of every byte list.
use Rattle.std.specs.Prelude.{◌≡◌, ℕ, List, None, Some}
use Rattle.aprs_ax25.specs.Frame.{Parts, FrameOf}
use Rattle.aprs_ax25.specs.FrameFault.{frame_fault}
use Rattle.aprs_ax25.specs.declared.fault.FrameFault.{FrameFault}

-- The bytes are the frame of one set of parts alone, and no fault is true of them.
pub record IsReadAsFrame (bytes : List ℕ) : Type 0 where
  pub parts : Parts
  pub reads : FrameOf parts bytes
  pub only : (others : Parts) → FrameOf others bytes → others ≡ parts
  pub faultless : frame_fault bytes ≡ None

-- One fault is the first that is true of the bytes, and they are no frame.
pub record IsReadAsNone (bytes : List ℕ) : Type 0 where
  pub fault : FrameFault
  pub first : frame_fault bytes ≡ Some fault
  pub none : (parts : Parts) → FrameOf parts bytes → ⊥
