use Rattle.aprs_log.proofs.Common.{◌+◌, arith, sym, ◌∙◌, take_rest}
use Rattle.aprs_log.proofs.FirstFields.{IsName-there, TakesName-at, TakesNoName-if, TakesNoName-no_end, none_matches}
use Rattle.aprs_log.proofs.line.fields.take_receiver.Goals as goal
use Rattle.aprs_log.proofs.line.fields.take_receiver.Goals.{then-len-eq0-via-then-len-eq0, then-len-eq0-via-else-len-eq0+then-len-gt-MAX_NAME, then-len-eq0-via-else-len-eq0+else-len-gt-MAX_NAME+then-text-len-ne32}

pub returns-in_err-len : goal.returns-in_err-len
returns-in_err-len c =
    none_matches c.from_residual.result _ _ c.from_residual.ensures
    (TakesNoName-no_end c.args.text.now (sym c.in_err-len.was ∙ c.name_end.ensures))

pub returns-then-len-eq0 : goal.returns-then-len-eq0
returns-then-len-eq0 c =
    TakesNoName-if c.args.text.now c.in_ok-len.len (sym c.in_ok-len.was ∙ c.name_end.ensures)
    (λ low high space.
    elim c.then-len-eq0.branch [
      | then-len-eq0-via-then-len-eq0 w ↦ omega (arith, low)
      | then-len-eq0-via-else-len-eq0+then-len-gt-MAX_NAME w ↦ omega (arith, high)
      | then-len-eq0-via-else-len-eq0+else-len-gt-MAX_NAME+then-text-len-ne32 w ↦
          w.if-text-len-ne32.true space
    ])

pub with_name-requires : goal.with_name-requires
with_name-requires c =
    IsName-there c.args.text.now c.in_ok-len.len (sym c.in_ok-len.was ∙ c.name_end.ensures)
    (omega arith) (omega arith)

pub returns : goal.returns
returns c =
    TakesName-at c.args.text.now c.in_ok-len.len c.with_name.result _ (sym c.in_ok-len.was
    ∙ c.name_end.ensures)
    (omega arith) (omega arith) c.if-text-len-ne32.false c.with_name.ensures
    (take_rest c.args.text.now (c.in_ok-len.len + 1))
