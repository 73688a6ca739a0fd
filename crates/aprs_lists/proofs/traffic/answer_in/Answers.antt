use Rattle.aprs_lists.proofs.Common.{Some, subst, sym}
use Rattle.aprs_summary.proofs.ReplyTexts.{holds_as}
use Rattle.aprs_summary.specs.ReplyTexts.{HoldsOnly}
use Rattle.aprs_lists.specs.Answers.{Reply, reply_of}
use Rattle.aprs_lists.specs.Said.{said_view}
use Rattle.aprs_lists.specs.Traffic.{GivesNetReply, answering_of}
use Rattle.aprs_lists.proofs.TrafficGiven.{no_call, no_reply, one_reply}
use Rattle.aprs_lists.proofs.traffic.answer_in.Goals as goal

pub returns-in_err-parts : goal.returns-in_err-parts
returns-in_err-parts c =
    holds_as (GivesNetReply c.args.row.now) reply_of c.from_residual-in_err-parts.ensures
    (no_reply c.args.row.now (said_view c.in_ok-said.said) (sym c.in_ok-said.ensures)
    c.in_err-parts.ensures)

pub returns-in_err-source : goal.returns-in_err-source
returns-in_err-source c =
    holds_as (GivesNetReply c.args.row.now) reply_of c.from_residual-in_err-source.ensures
    (no_call c.args.row.now (said_view c.in_ok-said.said) (sym c.in_ok-said.ensures)
    (answering_of c.in_ok-parts.parts) c.in_ok-parts.ensures (sym c.in_err-source.ensures))

pub returns : goal.returns
returns c =
    let x = c.args.row.now in
    let s = said_view c.in_ok-said.said in
    let p = answering_of c.in_ok-parts.parts in
    subst (λ (r : Reply). HoldsOnly (GivesNetReply x) (Some r))
    (λ i. record {
      asked = record {
        source = sym c.of.ensures i;
        answerer = sym c.of-2.ensures i;
        number = p.number;
        is_reply = p.is_reply;
      };
      moment = sym c.first.ensures i;
      is_rejection = p.is_rejection;
    })
    (one_reply x s (sym c.in_ok-said.ensures) p c.in_ok-parts.ensures c.in_ok-source.source
    (sym c.in_ok-source.ensures))
