-- Frames that are lent.
use Rattle.std.specs.Prelude.{ℕ, List}
use Rattle.aprs_ax25.specs.declared.frame_ref.FrameRef.{FrameRef}

-- The bytes of the frame.
abbrev pub frame_bytes : FrameRef → List ℕ
frame_bytes f = f.bytes.now
