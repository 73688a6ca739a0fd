use Rattle.aprs_io.proofs.Common.{◌≡◌, ◌⊎◌, ◌+◌, ◌%◌, inl, inr, false, true, ap, sym, ◌∙◌, arith, bit_or, lower_digits, slice_index}
use Rattle.aprs_io.proofs.Digits.{lower_letter, value_of_letter}
use Rattle.aprs_io.proofs.hexadecimal.value_of.Goals as goal
use Rattle.aprs_io.proofs.hexadecimal.value_of.Goals.{then-lower, else-lower}

pub returns-then-letter-lt6-clause-value : goal.returns-then-letter-lt6-clause-value
returns-then-letter-lt6-clause-value c = λ small.
    let either : (c.if-lower.small ≡ c.args.byte) ⊎ (c.if-lower.small ≡ bit_or c.args.byte 32)
    = elim c.if-lower.branch [ then-lower w ↦ inl w.small-is | else-lower w ↦ inr w.small-is ] in
    value_of_letter c.args.byte c.if-lower.small (omega arith) either (omega arith)

pub returns-then-letter-lt6-clause-lower : goal.returns-then-letter-lt6-clause-lower
returns-then-letter-lt6-clause-lower c = λ lower. λ small.
    let same : c.args.byte ≡ c.if-lower.small
    = elim c.if-lower.branch [
      | then-lower w ↦ sym w.small-is
      | else-lower w ↦ absurd (let no : true ≡ false = sym lower ∙ w.if-lower.false in cc)
    ] in
    let place : (c.args.byte + 159) % 256 ≡ (c.if-lower.small + 159) % 256
    = ap (λ n. (n + 159) % 256) same in
    lower_letter c.args.byte (omega arith) (omega arith)
    ∙ ap (λ n. slice_index lower_digits (n + 10)) place
