use Rattle.aprs_booktext.proofs.Common.{rules, subst, Sends, Sends-put, Sends-unput}
use Rattle.aprs_bookfile.specs.Text.{written_text}
use Rattle.aprs_booktext.proofs.write.write_book.Goals as goal

pub returns-in_err-put_book-clause-sends : goal.returns-in_err-put_book-clause-sends
returns-in_err-put_book-clause-sends g c =
    subst (λ w. Sends g.W.Write.contents c.from_residual.result c.args.w.now w
    (written_text c.args.book.now)) (search rules)
    (Sends-unput c.new-out.ensures.nothing _ c.from_residual.ensures.0
    c.in_err-put_book.ensures.puts)

pub returns-clause-sends : goal.returns-clause-sends
returns-clause-sends g c =
    subst (λ w. Sends g.W.Write.contents c.flush.result c.args.w.now w
    (written_text c.args.book.now)) (search rules)
    (Sends-put c.new-out.ensures.nothing c.in_ok-put_book.ensures.puts c.flush.ensures.sent)
