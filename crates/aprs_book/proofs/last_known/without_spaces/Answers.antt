use Rattle.aprs_book.proofs.Common.{◌∙◌, arith, nat_tests}
use Rattle.aprs_report.specs.Bytes.{is_space}
use Rattle.aprs_report.proofs.Cuts.{cut_one, cut_none, cut_nothing}
use Rattle.aprs_book.proofs.last_known.without_spaces.Goals as goal

pub loop-rest-preserved : goal.loop-rest-preserved
loop-rest-preserved c =
    cut_one is_space c.loop-rest.rest.now c.in-len1-up.len_at_least
    (rw c.if-last-ne32.false) ∙ c.loop-rest.invariant

pub returns-then-last-ne32 : goal.returns-then-last-ne32
returns-then-last-ne32 c =
    cut_none is_space c.loop-rest.rest.now c.in-len1-up.len_at_least
    (grind (arith, nat_tests)) ∙ c.loop-rest.invariant

pub returns : goal.returns
returns c = cut_nothing is_space c.loop-rest.rest.now (omega arith) ∙ c.loop-rest.invariant
