use Rattle.aprs_io.proofs.Common.{arith, inl, inr, refl}
use Rattle.aprs_io.proofs.Digits.{byte_more, encode_lower-digits, no_digits}
use Rattle.aprs_io.proofs.hexadecimal.decode_few.Goals as goal
use Rattle.aprs_io.proofs.hexadecimal.decode_few.Goals.{then-high-gt15-via-then-high-gt15, then-high-gt15-via-else-high-gt15+then-low-gt15}

pub bytes-preserved : goal.bytes-preserved
bytes-preserved c =
    byte_more c.args.text.now c.bytes.out c.bytes.i c.value_of-high.result c.value_of-low.result
    (omega arith) (omega arith) (omega arith)
    (c.value_of-high.ensures.lower refl (omega arith))
    (c.value_of-low.ensures.lower refl (omega arith)) c.bytes.invariant

pub returns-clause-bytes : goal.returns-clause-bytes
returns-clause-bytes c =
    encode_lower-digits c.bytes.out c.args.text.now (omega arith)
    (λ k lt. c.bytes.invariant k (omega arith))

pub returns-then-high-gt15-clause-bytes : goal.returns-then-high-gt15-clause-bytes
returns-then-high-gt15-clause-bytes c =
    no_digits c.args.text.now c.bytes.i (omega arith) (
    elim c.then-high-gt15.branch [
      | then-high-gt15-via-then-high-gt15 w ↦
          inl (c.value_of-high.ensures.other refl (omega (arith, w.if-high-gt15.true)))
      | then-high-gt15-via-else-high-gt15+then-low-gt15 w ↦
          inr (c.value_of-low.ensures.other refl (omega (arith, w.if-low-gt15.true)))
    ])
