use Rattle.aprs_report.proofs.Common.{sym, ◌∙◌, arith, get_or}
use Rattle.aprs_report.proofs.Numerals.{next_small, read_small, reads_next, reads_no_digit}
use Rattle.aprs_report.proofs.Numerals.{reads_all}
use Rattle.aprs_report.proofs.numeral.numeral.Goals as goal

pub returns-then-not-is_digit_in-clause-exact : goal.returns-then-not-is_digit_in-clause-exact
returns-then-not-is_digit_in-clause-exact c =
    reads_no_digit c.args.base c.args.nought c.args.text.now c.loop-byte.byte-index
    c.loop-byte-test.true
    (sym c.is_digit_in.ensures ∙ c.if-not-is_digit_in.true)

pub overflow_mul-n : goal.overflow_mul-n
overflow_mul-n c =
    omega (
      arith,
      next_small c.args.base c.args.nought c.args.text.now c.loop-byte.byte-index c.loop-byte.n
          (get_or c.args.text.now c.loop-byte.byte-index 0) c.requires.base (omega arith)
          (sym c.is_digit_in.ensures ∙ c.if-not-is_digit_in.false) c.loop-byte.invariant,
    )

pub overflow_add-n : goal.overflow_add-n
overflow_add-n c =
    omega (
      arith,
      next_small c.args.base c.args.nought c.args.text.now c.loop-byte.byte-index c.loop-byte.n
          (get_or c.args.text.now c.loop-byte.byte-index 0) c.requires.base (omega arith)
          (sym c.is_digit_in.ensures ∙ c.if-not-is_digit_in.false) c.loop-byte.invariant,
    )

pub loop-byte-preserved : goal.loop-byte-preserved
loop-byte-preserved c =
    reads_next c.args.base c.args.nought c.args.text.now c.loop-byte.byte-index c.loop-byte.n
    c.requires.base c.loop-byte-test.true
    (sym c.is_digit_in.ensures ∙ c.if-not-is_digit_in.false) c.loop-byte.invariant

pub returns-clause-exact : goal.returns-clause-exact
returns-clause-exact c =
    reads_all c.args.base c.args.nought c.args.text.now c.loop-byte.byte-index c.loop-byte.n
    c.loop-byte-test.false c.loop-byte.invariant

pub returns-clause-small : goal.returns-clause-small
returns-clause-small c =
    read_small c.args.base c.args.nought c.args.text.now c.loop-byte.byte-index c.loop-byte.n
    (omega arith) c.loop-byte.invariant
