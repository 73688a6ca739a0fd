use Rattle.aprs_ax25.proofs.UiFrames.{frame_of-is, is-frame_of}
use Rattle.aprs_ax25.proofs.laws.ui_frames_are_read.Goals as goal

pub returns : goal.returns
returns c = λ bytes. (is-frame_of bytes, frame_of-is bytes bytes)
