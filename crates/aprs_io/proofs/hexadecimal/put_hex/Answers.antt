use Rattle.aprs_io.proofs.Common.{rules, ◌≡◌, ◌+◌, ◌-◌, ◌*◌, length, arith, drop-put_mid}
use Rattle.aprs_io.proofs.hexadecimal.put_hex.Goals as goal

pub returns-clause-stays : goal.returns-clause-stays
returns-clause-stays c =
    let size = 2 * length c.args.bytes.now in
    let as_many : length c.encode_to.new.digits ≡ c.args.at + size - c.args.at = search rules in
    drop-put_mid c.args.at (c.args.at + size - c.args.at) c.args.out.now
    c.encode_to.new.digits (c.args.at + size) (omega arith) (omega (arith, c.requires)) as_many
