use Rattle.aprs_io.proofs.Common.{arith, refl, slice_index, slice_set, ◌*◌, ◌∙◌, length-set}
use Rattle.aprs_io.proofs.Digits.{digit_more, digits_of_twice, twice_more}
use Rattle.aprs_io.proofs.hexadecimal.put_digits.Goals as goal

pub bytes-preserved : goal.bytes-preserved
bytes-preserved c =
    let byte = slice_index c.args.bytes.now c.bytes.j in
    let one = slice_set c.bytes.twice (2 * c.bytes.j) byte in
    record {
      len = length-set one _ byte ∙ length-set c.bytes.twice _ byte ∙ c.bytes.invariant.len;
      twice = twice_more c.args.bytes.now c.bytes.twice c.bytes.j byte
          (omega (arith, c.bytes.invariant.len)) refl c.bytes.invariant.twice;
    }

pub digits-preserved : goal.digits-preserved
digits-preserved c =
    digit_more c.bytes.twice c.digits.digits c.digits.k _ c.half_of.result (omega arith)
    c.digit_of.ensures c.half_of.ensures.even c.half_of.ensures.odd c.digits.invariant

pub returns : goal.returns
returns c =
    digits_of_twice c.args.bytes.now c.bytes.twice c.digits.digits 16
    (λ j below. c.bytes.invariant.twice j (omega arith))
    (λ k below. c.digits.invariant k (omega arith))
