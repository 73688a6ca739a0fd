use Rattle.std.proofs.Common.{◌≡◌, ℕ, ℤ, pos, ◌*◌, ◌^◌, ◌<◌, ◌≤◌, arith}
use Rattle.std.proofs.Math.IntN.{nat_abs, ◌*ℤ◌, ◌-ℤ◌, ◌+ℤ◌}
use Rattle.std.proofs.Math.Nat.{mul-le-mul_left}
use Rattle.std.proofs.lemmas.Int.{ints, unsigned_abs-mul, fits_signed_from_abs}
use mir.Val.{SFits, to_z, of_z}
use mir.Syntax.{w32, w64}
use Rattle.aprs_details.proofs.precision.finer.Goals as goal

-- What the machine has for an angle, its parts and a byte more fits, is exact, and is small.
module _ (angle : ℤ) (parts more : ℕ) (fits : SFits w32 angle) (few : parts < 92)
    (byte : more < 2 ^ 8) where
  -- the angle times its parts, as the machine has it
  abbrev product : ℤ
  product = to_z w64 (of_z w64 (to_z w32 (of_z w32 angle))) *ℤ to_z w64 parts

  product_is : product ≡ angle *ℤ pos parts
  product_is =
      let whole : to_z w64 (of_z w64 (to_z w32 (of_z w32 angle))) ≡ angle = omega (arith, ints) in
      let scale : to_z w64 parts ≡ pos parts = omega (arith, ints) in
      rw (whole, scale)

  product_is_small : nat_abs product ≤ 91 * 2 ^ 31
  product_is_small =
      let most : parts ≤ 91 = omega arith in
      rw (product_is, unsigned_abs-mul angle (pos parts))
      (omega (arith, ints, mul-le-mul_left (nat_abs angle) most))

  product_fits : SFits w64 product
  product_fits = fits_signed_from_abs w64 _ (omega (arith, product_is_small))

  -- the product less the byte, and with it
  abbrev less : ℤ
  less = to_z w64 (of_z w64 product) -ℤ to_z w64 more

  abbrev sum : ℤ
  sum = to_z w64 (of_z w64 product) +ℤ to_z w64 more

  less_fits : SFits w64 less
  less_fits = fits_signed_from_abs w64 _ (omega (arith, ints, product_is_small))

  sum_fits : SFits w64 sum
  sum_fits = fits_signed_from_abs w64 _ (omega (arith, ints, product_is_small))

  less_is : to_z w64 (of_z w64 less) ≡ (angle *ℤ pos parts) -ℤ pos more
  less_is = rw (← product_is) (omega (arith, ints, product_is_small))

  sum_is : to_z w64 (of_z w64 sum) ≡ (angle *ℤ pos parts) +ℤ pos more
  sum_is = rw (← product_is) (omega (arith, ints, product_is_small))

  less_is_small : nat_abs (to_z w64 (of_z w64 less)) < 2 ^ 38
  less_is_small = omega (arith, ints, product_is_small)

  sum_is_small : nat_abs (to_z w64 (of_z w64 sum)) < 2 ^ 38
  sum_is_small = omega (arith, ints, product_is_small)

pub overflow_mul-result : goal.overflow_mul-result
overflow_mul-result c =
    product_fits c.args.angle c.args.parts c.args.more c.ranges.angle c.requires.few (omega arith)

pub overflow_mul-result-else-is_negative : goal.overflow_mul-result-else-is_negative
overflow_mul-result-else-is_negative c =
    product_fits c.args.angle c.args.parts c.args.more c.ranges.angle c.requires.few (omega arith)

pub overflow_sub-result : goal.overflow_sub-result
overflow_sub-result c =
    less_fits c.args.angle c.args.parts c.args.more c.ranges.angle c.requires.few (omega arith)

pub overflow_add-result : goal.overflow_add-result
overflow_add-result c =
    sum_fits c.args.angle c.args.parts c.args.more c.ranges.angle c.requires.few (omega arith)

pub returns-then-is_negative-clause-exact : goal.returns-then-is_negative-clause-exact
returns-then-is_negative-clause-exact c =
    rw c.if-is_negative.true
    (less_is c.args.angle c.args.parts c.args.more c.ranges.angle c.requires.few (omega arith))

pub returns-else-is_negative-clause-exact : goal.returns-else-is_negative-clause-exact
returns-else-is_negative-clause-exact c =
    rw c.if-is_negative.false
    (sum_is c.args.angle c.args.parts c.args.more c.ranges.angle c.requires.few (omega arith))

pub returns-then-is_negative-clause-small : goal.returns-then-is_negative-clause-small
returns-then-is_negative-clause-small c =
    less_is_small c.args.angle c.args.parts c.args.more c.ranges.angle c.requires.few (omega arith)

pub returns-else-is_negative-clause-small : goal.returns-else-is_negative-clause-small
returns-else-is_negative-clause-small c =
    sum_is_small c.args.angle c.args.parts c.args.more c.ranges.angle c.requires.few (omega arith)
