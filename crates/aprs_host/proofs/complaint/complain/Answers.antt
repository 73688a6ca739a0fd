use Rattle.aprs_host.proofs.Common.{rules, subst, Sends-put, Sends-unput}
use Rattle.aprs_io.specs.Device.{Sends}
use Rattle.aprs_host.specs.Complaint.{complaint_text}
use Rattle.aprs_host.proofs.complaint.complain.Goals as goal

pub returns-in_err-put_complaint : goal.returns-in_err-put_complaint
returns-in_err-put_complaint g c =
    subst (λ w. Sends g.W.Write.contents c.from_residual.result c.args.w.now w
    (complaint_text c.args.program.now c.args.complaint)) (search rules)
    (Sends-unput c.new-out.ensures.nothing _ c.from_residual.ensures.0 c.in_err-put_complaint.ensures)

pub returns : goal.returns
returns g c =
    subst (λ w. Sends g.W.Write.contents c.flush.result c.args.w.now w
    (complaint_text c.args.program.now c.args.complaint)) (search rules)
    (Sends-put c.new-out.ensures.nothing c.in_ok-put_complaint.ensures c.flush.ensures.sent)
