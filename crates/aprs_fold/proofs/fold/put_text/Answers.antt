use Rattle.aprs_fold.proofs.Common.{Puts-is}
use Rattle.aprs_fold.proofs.InErr.{in_err}
use Rattle.aprs_fold.proofs.Puttings.{Puts-ok}
use Rattle.aprs_fold.proofs.Streamed.{AreAsked-none}
use Rattle.aprs_fold.proofs.Texts.{leaves_all, leaves_header, leaves_rows, text_ends}
use Rattle.aprs_fold.proofs.fold.put_text.Goals as goal

pub returns-in_err-put_header-clause-left : goal.returns-in_err-put_header-clause-left
returns-in_err-put_header-clause-left g c =
    in_err _ _ c.from_residual.ensures.1
    (leaves_header c.requires.gap c.in_err-put_header.ensures.puts)

pub returns-in_err-put_header-clause-asks : goal.returns-in_err-put_header-clause-asks
returns-in_err-put_header-clause-asks g c =
    AreAsked-none g.R.Read.remaining c.args.limit c.args.inputs.now

pub returns-in_err-count-clause-left : goal.returns-in_err-count-clause-left
returns-in_err-count-clause-left g c =
    in_err _ _ c.from_residual-in_err-count.ensures.1
    (leaves_rows (Puts-ok c.in_ok-put_header.ensures.puts) _ c.in_ok-put_header.ensures.empty
    c.in_err-count.ensures.left)

pub returns-in_err-put-clause-left : goal.returns-in_err-put-clause-left
returns-in_err-put-clause-left g c =
    let h = c.in_ok-count.ensures.folds in
    in_err _ _ c.from_residual-in_err-put.ensures.1 (leaves_all h.2.book (text_ends
    (Puts-ok c.in_ok-put_header.ensures.puts) h.2 (Puts-is c.in_err-put.ensures (cc))))

pub returns-clause-folds : goal.returns-clause-folds
returns-clause-folds g c =
    let h = c.in_ok-count.ensures.folds in (
      h.0,
      h.1,
      Puts-ok (text_ends (Puts-ok c.in_ok-put_header.ensures.puts) h.2
          (Puts-is c.in_ok-put.ensures (cc))),
      h.2.book,
    )
