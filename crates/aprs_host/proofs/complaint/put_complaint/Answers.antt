use Rattle.aprs_host.proofs.Common.{Puts-fails, Puts-is, Puts-then}
use Rattle.aprs_host.proofs.complaint.put_complaint.Goals as goal

pub returns-in_err-put : goal.returns-in_err-put
returns-in_err-put g c =
    Puts-fails c.from_residual.result c.from_residual.ensures.0
    (Puts-is c.in_err-put.ensures c.speaker_of.ensures) _

pub returns-in_err-put-2 : goal.returns-in_err-put-2
returns-in_err-put-2 g c =
    Puts-then (Puts-is c.in_ok-put.ensures c.speaker_of.ensures)
    (Puts-fails c.from_residual-in_err-put-2.result
    c.from_residual-in_err-put-2.ensures.0 c.in_err-put-2.ensures _)

pub returns-in_err-put_words : goal.returns-in_err-put_words
returns-in_err-put_words g c =
    Puts-then (Puts-is c.in_ok-put.ensures c.speaker_of.ensures)
    (Puts-then c.in_ok-put-2.ensures
    (Puts-fails c.from_residual-in_err-put_words.result
    c.from_residual-in_err-put_words.ensures.0 c.in_err-put_words.ensures _))

pub returns : goal.returns
returns g c =
    Puts-then (Puts-is c.in_ok-put.ensures c.speaker_of.ensures)
    (Puts-then c.in_ok-put-2.ensures
    (Puts-then c.in_ok-put_words.ensures c.put-3.ensures))
