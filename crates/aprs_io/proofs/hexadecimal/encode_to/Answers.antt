use Rattle.aprs_io.proofs.Common.{arith, inl, inr, ◌∙◌, ◌+◌, ◌*◌, cases_lt}
use Rattle.aprs_io.proofs.Digits.{encode_lower-digits}
use Rattle.aprs_io.proofs.hexadecimal.encode_to.Goals as goal

pub blocks-2-preserved : goal.blocks-2-preserved
blocks-2-preserved c k below room =
    let e = c.encode_block.ensures in
    elim (cases_lt k c.min.result) [
      | inl before ↦
          let h = c.blocks-2.invariant k (omega (arith, c.min.ensures)) room in
          (e.kept (2 * k) (omega arith) ∙ h.0, e.kept (2 * k + 1) (omega arith) ∙ h.1)
      | inr within ↦ e.digits k within (omega (arith, c.min.ensures))
    ]

pub returns : goal.returns
returns c =
    encode_lower-digits c.args.bytes.now c.blocks-2.digits (omega arith)
    (λ k lt. c.blocks-2.invariant k (omega (arith, c.div_ceil-i-end.ensures)) lt)
