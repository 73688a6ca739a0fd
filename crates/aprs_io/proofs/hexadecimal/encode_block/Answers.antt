use Rattle.aprs_io.proofs.Common.{List, ℕ, ◌*◌, ◌+◌, ◌-◌, arith, sym, subst}
use borrow.Rule.Slice.PartMut.{put_mid}
use Rattle.aprs_io.specs.Hexadecimal.{HoldsDigits}
use Rattle.aprs_io.proofs.Digits.{block_digits}
use Rattle.aprs_io.proofs.hexadecimal.encode_block.Goals as goal

pub returns-clause-digits : goal.returns-clause-digits
returns-clause-digits c k low high =
    let at = c.args.at in
    subst (λ (block : List ℕ). HoldsDigits c.args.bytes.now
    (put_mid (2 * at) (2 * at + 32 - 2 * at) c.args.digits.now block) k)
    (sym c.copy_from_slice.ensures.after)
    (block_digits c.args.bytes.now c.args.digits.now c.put_digits.new.digits at c.requires.len
    (omega (arith, c.requires.room)) (omega arith) c.put_digits.ensures k low high)
