use Rattle.aprs_booktext.proofs.Common.{sym, Puts-fails, Puts-is, Puts-then, joined_first}
use Rattle.aprs_booktext.proofs.write.put_names.Goals as goal

pub returns-in_err-put-clause-puts : goal.returns-in_err-put-clause-puts
returns-in_err-put-clause-puts g c =
    let whole = joined_first _ _ _ _ c.in-Some.ensures.cases.0 c.as_bytes.ensures.value in
    Puts-is (Puts-fails _ c.from_residual.ensures.0 c.in_err-put.ensures _) (sym whole)

pub returns-clause-puts : goal.returns-clause-puts
returns-clause-puts g c =
    let whole = joined_first _ _ _ _ c.in-Some.ensures.cases.0 c.as_bytes.ensures.value in
    Puts-is (Puts-then c.in_ok-put.ensures c.put_further_names.ensures.puts) (sym whole)
