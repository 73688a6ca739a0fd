use Rattle.aprs_web.proofs.Sums.{exceeds}
use Rattle.aprs_web.proofs.inputs.add_up.Goals as goal

pub returns-in-None : goal.returns-in-None
returns-in-None c = (
  λ e. absurd e,
  exceeds _ _ _ _ _ c.loop-length-test.true c.loop-length.invariant.0 c.loop-length.invariant.1
      c.in-None.ensures,
)
