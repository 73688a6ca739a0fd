use Rattle.aprs_bookfile.proofs.Common.{◌≤◌, ◌+◌, ap, length, arith}
use Rattle.arrayvec.specs.ArrayVec.{array_vec_len}
use Rattle.aprs_bookfile.proofs.Versions.{few_digits}
use Rattle.aprs_bookfile.proofs.version.Version.header.Goals as goal

pub push_all-requires-in-Three-2 : goal.push_all-requires-in-Three-2
push_all-requires-in-Three-2 c =
    let few = few_digits c.seconds.result c.as_bytes.result.now c.format.result.now
    c.seconds.ensures.range c.as_bytes.ensures.value c.format.ensures.text in
    let len = c.push_all-in-Three.ensures.len in
    let fits : array_vec_len c.push_all-in-Three.new.out + length c.as_bytes.result.now ≤ 16 =
    omega (arith, few, len, ap length c.new-line.ensures) in
    (omega arith, fits)

pub returns-in-Three-clause-short : goal.returns-in-Three-clause-short
returns-in-Three-clause-short c =
    let few = few_digits c.seconds.result c.as_bytes.result.now c.format.result.now
    c.seconds.ensures.range c.as_bytes.ensures.value c.format.ensures.text in
    omega (
      arith,
      few,
      c.push_all-in-Three.ensures.len,
      c.push_all-in-Three-2.ensures.len,
      ap length c.new-line.ensures,
    )
