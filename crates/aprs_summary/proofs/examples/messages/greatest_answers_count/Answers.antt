use Rattle.aprs_summary.proofs.Common.{Some, None, [], ◌∷◌, refl, sym, ap, rules}
use Rattle.aprs_summary.specs.declared.lists.message.MessageState.TheVariants.{Unanswered, Acknowledged, Rejected}
use Rattle.aprs_summary.specs.Messages.{reported_state}
use Rattle.aprs_summary.specs.Examples.{asked_at, acknowledged_at, rejected_at}
use Rattle.aprs_summary.proofs.Worked.{acknowledged_reads, rejected_reads, none_answers, answered_at, rejected_last, one_state}
use Rattle.aprs_summary.proofs.examples.messages.greatest_answers_count.Goals as goal

pub returns : goal.returns
returns c = record {
  unnumbered = search rules;
  unanswered = (None, none_answers, refl);
  at_first_moment =
      (Some (acknowledged_at 7), answered_at 7, ap reported_state (sym acknowledged_reads));
  rejected =
      (Some (rejected_at 20), rejected_last, ap reported_state (sym rejected_reads));
  misses_before = λ s. let e =
      one_state (asked_at 7 ∷ acknowledged_at 6 ∷ []) 7 Acknowledged Unanswered s
      (Some (acknowledged_at 6), answered_at 6, refl) in cc e;
  misses_lesser = λ s. let e =
      one_state (asked_at 0 ∷ acknowledged_at 10 ∷ rejected_at 20 ∷ []) 0 Acknowledged Rejected s
      (Some (rejected_at 20), rejected_last, ap reported_state (sym rejected_reads)) in cc e;
}
