use Rattle.aprs_summary.proofs.Common.{◌≡◌, ◌≤◌, Option, None, Some, [], ◌∷◌, inl, inr, refl, sym, ap, ◌∙◌, arith, Received, ◌∈◌, each_of}
use Rattle.aprs_transmissions.specs.Key.{key_of}
use Rattle.aprs_summary.specs.declared.lists.message.MessageRow.{MessageRow}
use Rattle.aprs_summary.specs.declared.lists.message.MessageState.TheVariants.{Unanswered, Acknowledged}
use Rattle.aprs_summary.specs.Messages.{Message, ReportsIt, IsAnsweredAt, IsMessageRow, IsStateOf, reported_state, shown_message}
use Rattle.aprs_summary.specs.Examples.{hi_message, one, hi_listed, asked_at, acknowledged_at, asked_again}
use Rattle.aprs_summary.proofs.Worked.{asked_is, acknowledged_is, acknowledged_reads, answered_once, one_answer, one_state}
use Rattle.aprs_summary.proofs.examples.messages.messages_are_judged_from_their_first_moment.Goals as goal

-- a report is of one message
one_message : {o : Option Message} (m n : Message) → o ≡ Some n → o ≡ Some m → n ≡ m
one_message m n e f = cc

state : IsStateOf asked_again (hi_message one) 0 one Acknowledged
state = (Some (acknowledged_at 10), answered_once, ap reported_state (sym acknowledged_reads))

answered : IsAnsweredAt asked_again (hi_message one) 0 one (Some 10)
answered = (Some (acknowledged_at 10), answered_once, refl)

-- its row in the list
abbrev row : MessageRow
row = hi_listed 0 20 Acknowledged (Some 10)

is_row : IsMessageRow asked_again row
is_row = record {
  first = record {
    heard = (asked_at 0, inl refl, asked_is, refl);
    least = λ s h r. omega arith;
  };
  last = record {
    heard = (asked_at 20, inr (inr (inl refl)), asked_is, refl);
    greatest =
        each_of (λ (s : Received). ReportsIt (hi_message one) (key_of s.frame) → s.moment ≤ 20)
        asked_again (λ r. omega arith, (λ r. omega arith, (λ r. omega arith, tt)));
  };
  state = state;
  answered = answered;
  reply_ack = inl (λ n h. cc (h.0), refl);
}

pub returns : goal.returns
returns c = record {
  again = record {
    ascending = (λ y h. absurd h, tt);
    messages = λ m. (
      λ t. each_of (λ (x : MessageRow). shown_message x ≡ m
          → (s : Received) × (s ∈ asked_again) × ReportsIt m (key_of s.frame)) (row ∷ [])
          (λ e. (asked_at 0, inl refl, asked_is ∙ ap Some e), tt) t.0 t.1 t.2,
      λ t. (
        row,
        inl refl,
        each_of (λ (s : Received). ReportsIt m (key_of s.frame)
            → hi_message one ≡ m) asked_again (
              one_message _ _ asked_is,
              (
                λ r. absurd (let d = sym acknowledged_is ∙ r in cc d),
                (one_message _ _ asked_is, tt),
              ),
            ) t.0 t.1 t.2,
      ),
    );
    each = each_of (λ (y : MessageRow). IsMessageRow asked_again y) (row ∷ []) (is_row, tt);
  };
  misses_unanswered = λ a. let e =
      one_state asked_again 0 Unanswered Acknowledged
      (a.each (hi_listed 0 20 Unanswered None) (inl refl)).state state in cc e;
  misses_answered = λ a. let e =
      one_answer asked_again 0 (Some 0) (Some 10)
      (a.each (hi_listed 0 20 Acknowledged (Some 0)) (inl refl)).answered answered in cc e;
  misses_last = λ a. let n =
      (a.each (hi_listed 0 0 Acknowledged (Some 10)) (inl refl)).last.greatest (asked_at 20)
      (inr (inr (inl refl))) asked_is in omega (arith, n);
  misses_twice = λ a. let h =
      a.ascending.0 row (inl refl) in cc h;
  misses_none = λ a.
      ((a.messages (hi_message one)).1 (asked_at 0, inl refl, asked_is)).1;
}
