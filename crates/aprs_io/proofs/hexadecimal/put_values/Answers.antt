use Rattle.aprs_io.proofs.Common.{◌<◌, arith}
use Rattle.aprs_io.proofs.Digits.{lowers_more, values_more}
use Rattle.aprs_io.proofs.hexadecimal.put_values.Goals as goal

pub digits-preserved : goal.digits-preserved
digits-preserved c = record {
  value = λ small.
      let before : c.digits.most < 16 = omega (arith, small) in
      let value : c.value_of-value.result < 16 = omega (arith, small) in
      values_more c.args.digits.now c.digits.values c.digits.j c.value_of-value.result
      (omega arith) value (c.value_of-value.ensures.value value)
      (c.digits.invariant.value before);
  lower = λ lower small.
      let before : c.digits.most < 16 = omega (arith, small) in
      let value : c.value_of-value.result < 16 = omega (arith, small) in
      lowers_more c.args.digits.now c.digits.values c.digits.j c.value_of-value.result
      (omega arith) (c.value_of-value.ensures.lower lower value)
      (c.digits.invariant.lower lower before);
}
