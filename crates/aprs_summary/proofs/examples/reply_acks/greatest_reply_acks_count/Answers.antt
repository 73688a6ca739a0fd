use Rattle.aprs_summary.proofs.Common.{◌≡◌, Some, None, [], ◌∷◌, inl, inr, refl, codes}
use Rattle.aprs_summary.specs.declared.lists.reply_ack.ReplyAck.TheVariants.{NotAwaited, Awaited, Heard}
use Rattle.aprs_summary.specs.Examples.{numbered_at, replied_at}
use Rattle.aprs_summary.proofs.WorkedReplies.{has_number, one_reply_ack, other_ack, replied_then}
use Rattle.aprs_summary.proofs.examples.reply_acks.greatest_reply_acks_count.Goals as goal

pub returns : goal.returns
returns c = record {
  not_awaited = inl (λ n h. cc (h.0), refl);
  awaited = inr (codes "19", has_number, None, other_ack, refl);
  at_first_moment = inr (codes "19", has_number, Some (replied_at 7), replied_then 7, refl);
  before = inr (codes "19", has_number, Some (replied_at 6), replied_then 6, refl);
  misses_before = λ s. let e : Heard 6 ≡ Awaited =
      one_reply_ack (numbered_at 7 ∷ replied_at 6 ∷ []) 7 (Heard 6) Awaited s
      (inr (codes "19", has_number, Some (replied_at 6), replied_then 6, refl)) in cc e;
  misses_not_awaited = λ s. let e : NotAwaited ≡ Heard 7 =
      one_reply_ack (numbered_at 7 ∷ replied_at 7 ∷ []) 7 NotAwaited (Heard 7) s
      (inr (codes "19", has_number, Some (replied_at 7), replied_then 7, refl)) in cc e;
}
