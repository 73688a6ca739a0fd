use Rattle.std.proofs.Common.{◌∙◌, sym, true, false}
use Rattle.aprs_ax25.proofs.Scans.{all_have-more}
use Rattle.aprs_ax25.proofs.scan.have_callsigns.Goals as goal

pub returns-then-not-has_callsign : goal.returns-then-not-has_callsign
returns-then-not-has_callsign c =
    sym (c.loop-rest.invariant
    ∙ all_have-more _ _ _ _ false c.loop-rest-test.true c.split_at.ensures.front
    c.split_at.ensures.back
    c.has_callsign.ensures c.if-not-has_callsign.true)

pub loop-rest-preserved : goal.loop-rest-preserved
loop-rest-preserved c =
    c.loop-rest.invariant
    ∙ all_have-more _ _ _ _ true c.loop-rest-test.true c.split_at.ensures.front
    c.split_at.ensures.back
    c.has_callsign.ensures c.if-not-has_callsign.false
