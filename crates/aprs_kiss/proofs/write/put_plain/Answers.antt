use Rattle.aprs_kiss.proofs.Escapes.{plain_text}
use Rattle.aprs_kiss.proofs.write.put_plain.Goals as goal

pub returns-clause-text : goal.returns-clause-text
returns-clause-text c =
    plain_text c.args.frame.now _ _ _ c.requires.plain c.put-start.ensures.bytes
    c.put-end.ensures.bytes c.put.ensures.bytes
