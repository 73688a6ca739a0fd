use Rattle.aprs_io.proofs.Common.{arith, inl, inr, OnTrue_at, cases_lt}
use Rattle.aprs_io.proofs.Digits.{HoldsByte-kept, HoldsDigits-kept, decode_of-bytes, encode_lower-digits}
use Rattle.aprs_io.proofs.hexadecimal.decode_digits.Goals as goal

pub blocks-2-preserved : goal.blocks-2-preserved
blocks-2-preserved c = record {
  bytes = λ k below room.
      elim (cases_lt k c.min-at.result) [
        | inl before ↦
            HoldsByte-kept c.args.text.now c.blocks-2.out c.decode_block.new.out k
            (c.decode_block.ensures.kept k before)
            (c.blocks-2.invariant.bytes k (omega (arith, c.min-at.ensures))
            (omega (arith, c.decode_block.ensures.len)))
        | inr within ↦
            OnTrue_at c.if-not-decode_block.false c.decode_block.ensures.bytes k within
            (omega (arith, c.min-at.ensures, c.decode_block.ensures.len))
      ];
  lower = λ lower k below room.
      elim (cases_lt k c.min-at.result) [
        | inl before ↦
            HoldsDigits-kept c.args.text.now c.blocks-2.out c.decode_block.new.out k
            (c.decode_block.ensures.kept k before)
            (c.blocks-2.invariant.lower lower k (omega (arith, c.min-at.ensures))
            (omega (arith, c.decode_block.ensures.len)))
        | inr within ↦
            OnTrue_at c.if-not-decode_block.false (c.decode_block.ensures.lower lower) k within
            (omega (arith, c.min-at.ensures, c.decode_block.ensures.len))
      ];
}

pub returns-clause-bytes : goal.returns-clause-bytes
returns-clause-bytes c =
    decode_of-bytes c.args.text.now c.blocks-2.out (omega arith)
    (λ k lt. c.blocks-2.invariant.bytes k (omega (arith, c.div_ceil-i-end.ensures)) lt)

pub returns-clause-lower : goal.returns-clause-lower
returns-clause-lower c = λ lower.
    encode_lower-digits c.blocks-2.out c.args.text.now (omega arith)
    (λ k lt. c.blocks-2.invariant.lower lower k (omega (arith, c.div_ceil-i-end.ensures)) lt)
