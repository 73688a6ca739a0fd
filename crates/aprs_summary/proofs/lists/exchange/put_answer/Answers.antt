use Rattle.aprs_summary.proofs.Common.{◌∙◌}
use Rattle.aprs_summary.proofs.Collected.{adds_last}
use Rattle.aprs_summary.proofs.GreatestAnswers.{answer_keys_alike, kept_greater, answers_put}
use Rattle.aprs_summary.proofs.lists.exchange.put_answer.Goals as goal

pub returns : goal.returns
returns g c = λ rows r held asked is.
    answers_put rows _ r (adds_last rows r) c.args.answers.now.entries held _ answer_keys_alike
    c.args.key c.greater_known-answer.result c.insert.new.self.entries asked
    (kept_greater c.greater_known-answer.result c.get.result _ c.copy.result r.greatest
    c.greater_known-answer.ensures c.get.ensures.value (c.copy.ensures ∙ is))
    c.in_ok-insert.ensures.entries c.in_ok-insert.ensures.ordered
