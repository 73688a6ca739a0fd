use Rattle.aprs_summary.proofs.Common.{◌≡◌, ◌∙◌, ◌↔◌, Some, None, sym, ap, subst, option_map, Received, row_key}
use Rattle.aprs_transmissions.specs.Key.{key_of}
use Rattle.aprs_summary.specs.Messages.{message_in}
use Rattle.aprs_summary.specs.MessageRows.{IsOfAnswer, answer_of, begins_with_colon, message_of}
use Rattle.aprs_summary.proofs.Addressed.{no_message_in}
use Rattle.aprs_summary.proofs.Collected.{on_ok}
use Rattle.aprs_summary.proofs.Exchanges.{answers_by_itself, no_answer_given, answers_beside, spans_beside}
use Rattle.aprs_summary.proofs.lists.exchange.Exchange.take.Goals as goal

pub returns-then-not-is_addressed : goal.returns-then-not-is_addressed
returns-then-not-is_addressed g c = λ rows r held first is.
    let not = sym (ap begins_with_colon (c.info_of.ensures
    ∙ ap (λ (x : Received). (key_of x.frame).info) is))
    ∙ sym c.is_addressed.ensures ∙ c.if-not-is_addressed.true in
    record {
      spans = spans_beside rows r _ (no_message_in (row_key r) not) held.spans;
      answers = answers_beside rows r _ (no_answer_given (row_key r) not) held.answers;
    }

pub returns-in-Some : goal.returns-in-Some
returns-in-Some g c =
    on_ok c.put_span.result (λ put rows r held first is.
    let message : message_in (row_key r) ≡ Some (message_of c.in-Some.message) =
    sym (ap (λ (x : Received). message_in (key_of x.frame)) is)
    ∙ sym c.message_in.ensures ∙ ap (option_map message_of) c.in-Some.is in
    record {
      spans =
          put rows r held.spans message first
          (c.moment-last.ensures ∙ ap (λ (x : Received). x.moment) is);
      answers = c.in_ok-put_reply.ensures rows r held.answers message is;
    }) c.put_span.ensures

pub returns-in-Some-answer_in : goal.returns-in-Some-answer_in
returns-in-Some-answer_in g c =
    on_ok c.put_answer.result (λ put rows r held first is.
    let none : message_in (row_key r) ≡ None =
    sym (ap (λ (x : Received). message_in (key_of x.frame)) is)
    ∙ sym c.message_in.ensures ∙ ap (option_map message_of) c.in_default.is in
    record {
      spans = spans_beside rows r _ none held.spans;
      answers =
          put rows r held.answers
          (λ a. let by = answers_by_itself (row_key r) none a in
          let one = subst (λ (x : Received).
          IsOfAnswer a (key_of x.frame) ↔ (Some (answer_of c.in-Some-answer_in.key) ≡ Some a)) is
          (c.in-Some-answer_in.ensures a) in
          (λ p. one.0 (by.0 p), λ e. by.1 (one.1 e)))
          is;
    }) c.put_answer.ensures

pub returns-in-None : goal.returns-in-None
returns-in-None g c = λ rows r held first is.
    let none : message_in (row_key r) ≡ None =
    sym (ap (λ (x : Received). message_in (key_of x.frame)) is)
    ∙ sym c.message_in.ensures ∙ ap (option_map message_of) c.in_default.is in
    record {
      spans = spans_beside rows r _ none held.spans;
      answers =
          answers_beside rows r _
          (λ a p. let t : None ≡ Some a = ap (option_map answer_of) (sym c.in-None.is)
          ∙ (c.answer_in.ensures a).0
          (subst (λ (x : Received). IsOfAnswer a (key_of x.frame)) (sym is)
          ((answers_by_itself (row_key r) none a).0 p)) in absurd (cc))
          held.answers;
    }
