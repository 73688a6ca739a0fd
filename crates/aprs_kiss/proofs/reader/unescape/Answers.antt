use Rattle.aprs_kiss.proofs.Common.{◌∙◌, ap, ◌∷◌}
use Rattle.aprs_kiss.specs.Unspelling.{spelled_bytes}
use Rattle.aprs_kiss.proofs.Escapes.{unspelled-end, unspelled-escape, unspelled-broken}
use Rattle.aprs_kiss.proofs.reader.unescape.Goals as goal

pub returns-then-code-eq-TFEND : goal.returns-then-code-eq-TFEND
returns-then-code-eq-TFEND c more =
    ap (λ code. spelled_bytes (0xDB ∷ code ∷ more)) c.if-code-eq-TFEND.true ∙ unspelled-end more

pub returns-then-code-eq-TFESC : goal.returns-then-code-eq-TFESC
returns-then-code-eq-TFESC c more =
    ap (λ code. spelled_bytes (0xDB ∷ code ∷ more)) c.if-code-eq-TFESC.true ∙ unspelled-escape more

pub returns-else-code-eq-TFESC : goal.returns-else-code-eq-TFESC
returns-else-code-eq-TFESC c more =
    unspelled-broken c.args.code more c.if-code-eq-TFEND.false c.if-code-eq-TFESC.false
