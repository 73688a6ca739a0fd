use Rattle.aprs_convert.proofs.Common.{ap, sym, ◌∙◌, append-nil, flat_map, Sends-is}
use Rattle.aprs_kiss.specs.Answer.{judgements_in}
use Rattle.aprs_kiss.specs.declared.reader.Fed.{Fed}
use Rattle.aprs_convert.specs.Plan.{capture_text}
use Rattle.aprs_convert.proofs.capture.write_fed.Goals as goal

pub returns-in-Frame : goal.returns-in-Frame
returns-in-Frame g c =
    let text = flat_map (capture_text c.args.receiver.now c.args.moment.now) in
    Sends-is c.write_frame.ensures
    (sym (append-nil _) ∙ sym (ap (λ (f : Fed). text (judgements_in f)) c.in-Frame.is))
