use Rattle.aprs_log.proofs.Common.{◌≡◌, ◌≤◌, List, ℕ, length, ap, ◌∙◌, refl, subst, arith, Ok, decode_of, encode_lower, kiss_text, FrameOf, parts_of, MAX_UI_FRAME}
use Rattle.aprs_log.specs.Moment.{moment_text}
use Rattle.aprs_log.specs.Receiver.{IsName}
use Rattle.aprs_log.specs.declared.moment_form.MomentForm.TheVariants.{Millis}
use Rattle.aprs_log.proofs.Moments.{moment_text-is}
use Rattle.aprs_log.proofs.WrittenLines.{frame_of-is, line_of-written, real}
use Rattle.aprs_log.proofs.write.put_line.Goals as goal

pub returns-clause-back : goal.returns-clause-back
returns-clause-back c short =
    let x = c.args.reception.now in
    let frame : c.bytes.result.now ≡ x.frame = c.bytes.ensures.value ∙ c.frame.ensures in
    let few : length x.frame ≤ MAX_UI_FRAME = omega (arith, c.bytes.ensures.most, ap length frame) in
    let P : List ℕ → Type 0 = λ f. FrameOf (parts_of f) f in
    let reads = frame_of-is x.frame _ (subst P c.frame.ensures c.bytes.ensures.frame) in
    let is = real x (moment_text x.moment) refl
    (Millis, moment_text-is Millis x.moment c.requires.range (omega arith))
    (subst IsName c.receiver.ensures c.as_bytes.ensures.name) reads few in
    let digits = subst (λ l. decode_of (encode_lower (kiss_text l)) ≡ Ok (kiss_text l)) frame
    c.put_frame-digits.ensures.back in
    line_of-written x is digits short
