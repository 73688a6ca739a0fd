use Rattle.aprs_summary.proofs.Common.{arith}
use Rattle.aprs_summary.proofs.ReplyTexts.{end_found, end_of_two}
use Rattle.aprs_summary.proofs.lists.reply_text.end_after.Goals as goal

pub returns-in-Some : goal.returns-in-Some
returns-in-Some c =
    end_found c.args.mark c.requires c.args.bytes.now 0 (c.in-Some.found.0.now, c.in-Some.found.1.now)
    (omega arith) c.in-Some.ensures

pub returns-in-Some-cut_at : goal.returns-in-Some-cut_at
returns-in-Some-cut_at c =
    end_found c.args.mark c.requires c.args.bytes.now 1
    (c.in-Some-cut_at.found.0.now, c.in-Some-cut_at.found.1.now) (omega arith) c.in-Some-cut_at.ensures

pub returns : goal.returns
returns c =
    end_of_two c.args.mark c.requires c.args.bytes.now _ c.in_default.ensures
    c.in_default-cut_at.ensures c.cut_at-3.ensures
