use Rattle.aprs_convert.proofs.Common.{◌≡◌, length, ap, ◌∙◌, arith, reason_name}
use Rattle.aprs_convert.proofs.Texts.{length-reason_name}
use Rattle.aprs_convert.proofs.check.push_reason.Goals as goal

pub push_all-requires : goal.push_all-requires
push_all-requires c =
    let e : length c.as_bytes.result.now ≡ length (reason_name c.args.reason) =
    ap length (c.as_bytes.ensures.value ∙ c.name.ensures) in
    omega (arith, e, length-reason_name c.args.reason)
