use Rattle.aprs_fold.proofs.Common.{Err, Ok, Puts-is}
use Rattle.aprs_fold.specs.News.{news_of_sources}
use Rattle.aprs_fold.proofs.InErr.{in_err}
use Rattle.aprs_fold.proofs.NewTexts.{news_all, news_header, news_rows}
use Rattle.aprs_fold.proofs.Puttings.{Puts-ok}
use Rattle.aprs_fold.proofs.Streamed.{AreAsked-none}
use Rattle.aprs_fold.proofs.Texts.{whole_text}
use Rattle.aprs_fold.proofs.news.put_news_text.Goals as goal

pub returns-in_err-put_header-clause-left : goal.returns-in_err-put_header-clause-left
returns-in_err-put_header-clause-left g c =
    in_err _ _ c.from_residual.ensures.1
    (news_header g.W.Write.contents c.args.gap c.args.out.now c.put_header.new.out
    c.requires.gap c.in_err-put_header.ensures.puts)

pub returns-in_err-put_header-clause-asks : goal.returns-in_err-put_header-clause-asks
returns-in_err-put_header-clause-asks g c =
    AreAsked-none g.R.Read.remaining c.args.limit c.args.inputs.now

pub returns-in_err-count-clause-left : goal.returns-in_err-count-clause-left
returns-in_err-count-clause-left g c =
    in_err _ _ c.from_residual-in_err-count.ensures.1
    (news_rows g.W.Write.contents c.args.gap c.args.out.now c.put_header.new.out
    c.put_news.new.out (Puts-ok c.in_ok-put_header.ensures.puts) c.in_ok-put_header.ensures.empty _
    c.in_err-count.ensures.left)

pub returns-in_err-put-clause-left : goal.returns-in_err-put-clause-left
returns-in_err-put-clause-left g c =
    let h = c.in_ok-count.ensures.news in
    in_err _ _ c.from_residual-in_err-put.ensures.1
    (news_all g.W.Write.contents c.args.gap c.args.out.now c.put.new.self
    (news_of_sources c.args.range.now c.args.gap h.0).rows h.2.whole
    (whole_text g.W.Write.contents c.args.gap (Err c.in_err-put.field-0.0) c.args.out.now
    c.put_header.new.out c.put_news.new.out c.put.new.self c.in_ok-count.count
    (news_of_sources c.args.range.now c.args.gap h.0).rows
    (Puts-ok c.in_ok-put_header.ensures.puts) h.2.put.puts h.2.counted
    (Puts-is c.in_err-put.ensures (cc))))

pub returns-clause-news : goal.returns-clause-news
returns-clause-news g c =
    let h = c.in_ok-count.ensures.news in (
      h.0,
      h.1,
      Puts-ok (whole_text g.W.Write.contents c.args.gap (Ok tt) c.args.out.now
          c.put_header.new.out c.put_news.new.out c.put.new.self c.in_ok-count.count
          (news_of_sources c.args.range.now c.args.gap h.0).rows
          (Puts-ok c.in_ok-put_header.ensures.puts) h.2.put.puts h.2.counted
          (Puts-is c.in_ok-put.ensures (cc))),
      h.2.whole,
    )
