use Rattle.std.proofs.Common.{◌∙◌, ◌-◌, ◌/◌, ◌≡◌, ap, arith}
use Rattle.aprs_ax25.specs.FrameFault.{field_len}
use Rattle.aprs_ax25.proofs.Sounds.{frame_fault-IsSound, length-digipeaters, digipeaters-few}
use Rattle.aprs_ax25.proofs.frame_ref.FrameRef.hops.Goals as goal

pub returns-clause-value : goal.returns-clause-value
returns-clause-value c =
    let f = c.args.self.now in
    let e : f.info_at - 2 ≡ field_len f.bytes.now = omega (arith, f.place) in
    let all = length-digipeaters f.bytes.now (frame_fault-IsSound f.bytes.now f.sound) in
    ap (λ n. n / 7 - 2) e ∙ omega (arith, all)

pub returns-clause-few : goal.returns-clause-few
returns-clause-few c =
    let f = c.args.self.now in
    let e : f.info_at - 2 ≡ field_len f.bytes.now = omega (arith, f.place) in
    omega (arith, ap (λ n. n / 7 - 2) e, digipeaters-few f.bytes.now f.sound)
