use Rattle.aprs_log.proofs.Common.{arith, sym, ◌∙◌, eqb-true, take_rest}
use Rattle.aprs_log.proofs.Frames.{frame_in-cut}
use Rattle.aprs_log.proofs.line.frame_in_line.plain_frame_in.Goals as goal

pub returns-then-is_empty : goal.returns-then-is_empty
returns-then-is_empty c =
    frame_in-cut c.args.bytes.now _ _ _ _ _ (omega arith) (omega arith)
    (omega arith)
    (take_rest c.args.bytes.now 2) c.cut_plain.ensures.plain c.cut_plain.ensures.cut c.in_ok-end.was
    c.if-end.true
    (eqb-true _ _ (sym c.is_empty.ensures ∙ c.if-is_empty.true)) (omega arith)
