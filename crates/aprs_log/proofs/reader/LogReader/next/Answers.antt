use Rattle.aprs_log.proofs.Common.{Ok, Some, subst, sym}
use Rattle.aprs_log.specs.Reader.{Advances}
use Rattle.aprs_log.specs.declared.line.Line.{Line}
use Rattle.aprs_log.proofs.reader.LogReader.next.Goals as goal

pub returns-in-Ok-true : goal.returns-in-Ok-true
returns-in-Ok-true g c = subst
    (λ (x : Line). Advances g.R.Read.remaining (Ok (Some x)) c.args.self.now c.advance.new.self)
    (sym c.copy.ensures) (rw c.in-Ok-true.field-0-test at c.in-Ok-true.ensures)
