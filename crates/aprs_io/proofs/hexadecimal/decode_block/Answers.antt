use Rattle.aprs_io.proofs.Common.{arith, OnTrue_from, OnTrue_at}
use Rattle.aprs_io.proofs.Digits.{block_bytes, block_digits_of}
use Rattle.aprs_io.proofs.hexadecimal.decode_block.Goals as goal

pub returns-clause-bytes : goal.returns-clause-bytes
returns-clause-bytes c = OnTrue_from _ _ (λ yes.
    block_bytes c.args.text.now c.args.out.now c.put_values-are_digits.new.values
    c.put_bytes.new.out c.args.at
    (omega (arith, c.requires.room)) c.put_bytes.ensures.len
    (OnTrue_at yes c.put_values-are_digits.ensures.value) c.put_bytes.ensures.bytes)

pub returns-clause-lower : goal.returns-clause-lower
returns-clause-lower c = λ lower. OnTrue_from _ _ (λ yes.
    block_digits_of c.args.text.now c.args.out.now c.put_values-are_digits.new.values
    c.put_bytes.new.out c.args.at
    (omega (arith, c.requires.room)) c.put_bytes.ensures.len
    (OnTrue_at yes c.put_values-are_digits.ensures.value)
    (OnTrue_at yes (c.put_values-are_digits.ensures.lower lower)) c.put_bytes.ensures.bytes)
