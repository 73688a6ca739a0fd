use Rattle.std.proofs.Common.{◌<◌, All, arith, ◌∙◌, sym}
use Rattle.std.proofs.lemmas.List.{get_or_default}
use Rattle.aprs_ax25.proofs.Sounds.{frame_fault-IsSound, sound-FrameOf}
use Rattle.aprs_ax25.proofs.Spellings.{FrameOf-frame_fault}
use Rattle.aprs_ax25.proofs.frame.Frame.read.Goals as goal

pub with_info_at-requires-clause-frame : goal.with_info_at-requires-clause-frame
with_info_at-requires-clause-frame c =
    let small : All (λ b. b < 256) c.args.bytes.now =
    λ k d lt. omega (arith, get_or_default c.args.bytes.now k d 0 lt, c.type_inv.bytes k) in
    sound-FrameOf c.args.bytes.now
    (frame_fault-IsSound c.args.bytes.now (sym c.in_ok-info_at.ensures.fault)) small

pub returns-in_err-info_at-clause-only : goal.returns-in_err-info_at-clause-only
returns-in_err-info_at-clause-only c = λ parts h. let e = c.in_err-info_at.ensures.fault
    ∙ FrameOf-frame_fault parts _ h in cc
