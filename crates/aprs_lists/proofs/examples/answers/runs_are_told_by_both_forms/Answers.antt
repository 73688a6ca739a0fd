use Rattle.aprs_lists.proofs.Common.{◌≡◌, ◌∙◌, Bool, List, None, Option, Some, [], ◌∷◌, ap, ap₂, codes, false, refl, true, IsUpTo, Ordered}
use Rattle.aprs_summary.specs.declared.lists.message.MessageState.TheVariants.{Acknowledged, Unanswered}
use Rattle.aprs_summary.specs.declared.lists.reply_ack.ReplyAck.TheVariants.{Awaited, Heard}
use Rattle.aprs_transmissions.specs.Examples.{n0call}
use Rattle.aprs_lists.proofs.OneSent.{first_once}
use Rattle.aprs_lists.proofs.PlainFirst.{plain_is_first}
use Rattle.aprs_lists.specs.Answers.{IsFirstAnswer, Reply, first_in_time, reply_cmp}
use Rattle.aprs_lists.specs.NetExamples.{ack_at, numbered, reply_at}
use Rattle.aprs_lists.specs.Told.{IsToldRun, Told, least_reply, sent_told}
use Rattle.aprs_lists.proofs.examples.answers.runs_are_told_by_both_forms.Goals as goal

-- the least answer of this form that counts
abbrev least : Bool → Reply
least is_reply = least_reply 30 numbered (codes "1") (n0call 8) is_reply

alone : (a : Reply) → Ordered (IsUpTo reply_cmp) (a ∷ [])
alone a = (λ b m. absurd m, tt)

abbrev Is : Bool → List Reply → Option Reply → Type 0
Is is_reply replies x = IsFirstAnswer replies (least is_reply).asked 70 None x

found : (is_reply : Bool) (replies : List Reply) → Ordered (IsUpTo reply_cmp) replies
    → Is is_reply replies (first_in_time (least is_reply) None replies)
found is_reply replies o = plain_is_first replies (least is_reply) None o refl

one : (is_reply : Bool) (replies : List Reply) → Ordered (IsUpTo reply_cmp) replies
    → (x : Option Reply) → Is is_reply replies x → x ≡ first_in_time (least is_reply) None replies
one is_reply replies o x h =
    first_once replies replies (λ a. (λ m. m, λ m. m)) (least is_reply).asked 70 None x
    (first_in_time (least is_reply) None replies) h (found is_reply replies o)

-- what is told is by the answers that are found
told : (replies : List Reply) → Ordered (IsUpTo reply_cmp) replies → (t : Told)
    → IsToldRun 30 replies numbered t
    → t ≡ sent_told numbered (first_in_time (least false) None replies)
    (first_in_time (least true) None replies)
told replies o t h = h.told ∙ ap₂ (sent_told numbered) (one false replies o h.by_ack h.is_ack)
    (one true replies o h.by_reply h.is_reply)

pub returns-clause-ack : goal.returns-clause-ack
returns-clause-ack c = record {
  by_ack = Some (ack_at 110);
  by_reply = None;
  is_ack = found false (ack_at 110 ∷ []) (alone (ack_at 110));
  is_reply = found true (ack_at 110 ∷ []) (alone (ack_at 110));
  told = refl;
}

pub returns-clause-reply : goal.returns-clause-reply
returns-clause-reply c = record {
  by_ack = None;
  by_reply = Some (reply_at 110);
  is_ack = found false (reply_at 110 ∷ []) (alone (reply_at 110));
  is_reply = found true (reply_at 110 ∷ []) (alone (reply_at 110));
  told = refl;
}

pub returns-clause-misses_ack_as_reply : goal.returns-clause-misses_ack_as_reply
returns-clause-misses_ack_as_reply c h =
    let e : Heard 110 ≡ Awaited = ap (λ (t : Told). t.reply_ack)
    (told (ack_at 110 ∷ []) (alone (ack_at 110)) _ h) in
    absurd (cc)

pub returns-clause-misses_reply_as_ack : goal.returns-clause-misses_reply_as_ack
returns-clause-misses_reply_as_ack c h =
    let e : Awaited ≡ Heard 110 = ap (λ (t : Told). t.reply_ack)
    (told (reply_at 110 ∷ []) (alone (reply_at 110)) _ h) in
    absurd (cc)

pub returns-clause-misses_ack : goal.returns-clause-misses_ack
returns-clause-misses_ack c h =
    let e : Acknowledged ≡ Unanswered = ap (λ (t : Told). t.outcome) (told [] tt _ h) in
    absurd (cc)

pub returns-clause-misses_reply : goal.returns-clause-misses_reply
returns-clause-misses_reply c h =
    let e : Acknowledged ≡ Unanswered = ap (λ (t : Told). t.outcome) (told [] tt _ h) in
    absurd (cc)
