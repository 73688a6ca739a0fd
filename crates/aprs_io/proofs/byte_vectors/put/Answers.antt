use Rattle.aprs_io.proofs.Common.{rules, ◌≡◌, ◌+◌, ◌-◌, length, arith, drop-put_mid}
use Rattle.aprs_io.proofs.byte_vectors.put.Goals as goal

pub returns-clause-stays : goal.returns-clause-stays
returns-clause-stays c =
    let as_many : length c.copy_from_slice.new.self
    ≡ c.args.at + length c.args.bytes.now - c.args.at = search rules in
    drop-put_mid c.args.at (c.args.at + length c.args.bytes.now - c.args.at) c.args.out.now
    c.copy_from_slice.new.self (c.args.at + length c.args.bytes.now) (omega arith)
    (omega (arith, c.requires)) as_many
