use Rattle.std.proofs.Common.{ap, arith, length}
use Rattle.aprs_ax25.proofs.Least.{FrameOf-least}
use Rattle.aprs_ax25.proofs.frame.Frame.bytes.Goals as goal

pub returns-clause-least : goal.returns-clause-least
returns-clause-least c =
    let inside = c.self.invariant in
    omega (arith, ap length c.as_slice.ensures.value, FrameOf-least _ _ inside.1)
