use Rattle.aprs_host.proofs.Common.{rules, subst, Sends-put, Sends-unput}
use Rattle.aprs_io.specs.Device.{Sends}
use Rattle.aprs_host.specs.Note.{empty_text}
use Rattle.aprs_host.proofs.note.note_empty.Goals as goal

pub returns-in_err-put_empty : goal.returns-in_err-put_empty
returns-in_err-put_empty g c =
    subst (λ w. Sends g.W.Write.contents c.from_residual.result c.args.w.now w
    (empty_text c.args.program.now c.args.path.now)) (search rules)
    (Sends-unput c.new-out.ensures.nothing _ c.from_residual.ensures.0 c.in_err-put_empty.ensures)

pub returns : goal.returns
returns g c =
    subst (λ w. Sends g.W.Write.contents c.flush.result c.args.w.now w
    (empty_text c.args.program.now c.args.path.now)) (search rules)
    (Sends-put c.new-out.ensures.nothing c.in_ok-put_empty.ensures c.flush.ensures.sent)
