use Rattle.aprs_summary.proofs.Common.{Call, ap}
use Rattle.aprs_summary.specs.MessageRows.{message_of}
use Rattle.aprs_summary.proofs.GreatestAnswers.{answer_keys_alike, answer_looked_up, none_looked_up}
use Rattle.aprs_summary.proofs.lists.message_walk.greatest_answer.Goals as goal

pub returns-in-Ok : goal.returns-in-Ok
returns-in-Ok g c =
    answer_looked_up c.args.answers.now.entries (message_of c.args.message.now) c.args.id.now
    c.args.is_reply _ answer_keys_alike
    (record {
      source = c.copy.result;
      addressee = c.in-Ok.addressee;
      id = c.args.id;
      is_reply = c.args.is_reply;
    })
    c.in-Ok.addressee c.in-Ok.ensures.found
    (ap (λ (call : Call). record {
      source = call;
      addressee = c.in-Ok.addressee;
      id = c.args.id.now;
      is_reply = c.args.is_reply;
    }) c.copy.ensures)
    _ c.get.ensures.value

pub returns-in-Err : goal.returns-in-Err
returns-in-Err g c =
    none_looked_up c.args.answers.now.entries (message_of c.args.message.now) c.args.id.now
    c.args.is_reply
    (λ call s. let t = c.in-Err.ensures.only call s in absurd cc)
