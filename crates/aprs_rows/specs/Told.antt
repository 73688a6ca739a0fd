-- What each row of a store has.
use Rattle.std.specs.Prelude.{All}
use Rattle.aprs_ax25.specs.Frame.{FrameOf}
use Rattle.aprs_ax25.specs.FrameFault.{parts_of}
use Rattle.aprs_log.specs.Receiver.{IsName}
use Rattle.aprs_transmissions.specs.Row.{Row}

-- The receivers have names, and so has that of the greatest reception, whose frame is a UI frame.
pub record HasNamesAndFrame (x : Row) : Type 0 where
  pub names_are : All IsName x.receivers
  pub name_is : IsName x.greatest.receiver
  pub frame_is : FrameOf (parts_of x.greatest.frame) x.greatest.frame
