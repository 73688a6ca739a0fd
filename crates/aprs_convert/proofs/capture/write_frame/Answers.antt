use Rattle.aprs_convert.proofs.Common.{ℕ, List, [], ◌∷◌, ◌++◌, Result, Ok, ap, ◌∙◌, Sends-is, FrameFault, written_line}
use Rattle.aprs_log.specs.Reception.{Received}
use Rattle.aprs_convert.specs.Plan.{frame_line}
use Rattle.aprs_convert.proofs.capture.write_frame.Goals as goal

pub returns-in-Ok : goal.returns-in-Ok
returns-in-Ok g c =
    let r = c.args.receiver.now in
    let m = c.args.moment.now in
    Sends-is c.write.ensures.sends
    (ap (λ (x : Received). written_line x ++ 10 ∷ []) c.new.ensures
    ∙ ap (λ k. frame_line c.copy-in-Ok.result k (Ok c.in-Ok.frame)) c.copy.ensures
    ∙ ap (λ k. frame_line k m (Ok c.in-Ok.frame)) c.copy-in-Ok.ensures
    ∙ ap (λ (f : Result (List ℕ) FrameFault). frame_line r m f) c.in-Ok.ensures.exact)
