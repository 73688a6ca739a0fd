use Rattle.aprs_log.proofs.WrittenLines.{escape-end, escape-escape}
use Rattle.aprs_log.proofs.write.put_escape.Goals as goal

pub returns-then-byte-eq-FEND-clause-digits : goal.returns-then-byte-eq-FEND-clause-digits
returns-then-byte-eq-FEND-clause-digits c =
    escape-end _ _ c.args.byte c.if-byte-eq-FEND.true c.put.ensures.bytes

pub returns-else-byte-eq-FEND-clause-digits : goal.returns-else-byte-eq-FEND-clause-digits
returns-else-byte-eq-FEND-clause-digits c =
    escape-escape _ _ c.args.byte c.if-byte-eq-FEND.false c.requires.special
    c.put-else-byte-eq-FEND.ensures.bytes
