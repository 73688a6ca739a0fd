-- Answers to messages, and the first of them in a time.
use Rattle.std.specs.Prelude.{◌≡◌, ◌≤◌, ℕ, Bool, true, false, ◌&&◌, nat_lt, if◌then◌else◌, List, [], ◌∷◌, Option, None, Some}
use Rattle.std.specs.Ordering.{bool_cmp, is_eq, is_lt, nat_cmp, on, then_cmp}
use Rattle.std.specs.declared.cmp.Ordering.{Ordering}
use Rattle.aprs_ax25.specs.Callsign.{Call, call_cmp}
use Rattle.aprs_log.specs.Reception.{bytes_cmp}
use Rattle.aprs_transmissions.specs.Lists.{◌∈◌, Ordered}
use Rattle.aprs_transmissions.specs.Order.{IsUpTo}
use Rattle.aprs_lists.specs.declared.net.answers.Answer.{Answer}
use Rattle.aprs_lists.specs.declared.net.answers.Question.{Question}

-- What an answer is for: whose message, who answers, the number of the message, and whether by a
-- reply-ack.
pub record AskedAnswer : Type 0 where
  pub source : Call
  pub answerer : Call
  pub number : List ℕ
  pub is_reply : Bool

-- The order of questions: by all their parts, from the left.
abbrev pub asked_cmp : AskedAnswer → AskedAnswer → Ordering
asked_cmp = then_cmp (on (λ q. q.source) call_cmp)
    (then_cmp (on (λ q. q.answerer) call_cmp)
    (then_cmp (on (λ q. q.number) bytes_cmp) (on (λ q. q.is_reply) bool_cmp)))

-- An answer: what it is for, when it was first heard, and whether it rejects the message.
pub record Reply : Type 0 where
  pub asked : AskedAnswer
  pub moment : ℕ
  pub is_rejection : Bool

-- The order of answers: by what they are for, then moment, then an acknowledgement before a
-- rejection.
abbrev pub reply_cmp : Reply → Reply → Ordering
reply_cmp = then_cmp (on (λ a. a.asked) asked_cmp)
    (then_cmp (on (λ a. a.moment) nat_cmp) (on (λ a. a.is_rejection) bool_cmp))

-- What a `Question` of the code asks, as definitions have it.
abbrev pub asked_of : Question → AskedAnswer
asked_of x = record {
  source = x.source;
  answerer = x.answerer;
  number = x.number.now;
  is_reply = x.is_reply;
}

-- An `Answer` of the code, as definitions have it.
abbrev pub reply_of : Answer → Reply
reply_of x = record {
  asked = asked_of x.question;
  moment = x.moment;
  is_rejection = x.is_rejection;
}

-- Whether the moment is before this one, if there is one.
abbrev pub is_before : Option ℕ → ℕ → Bool
is_before None moment = true
is_before (Some until) moment = nat_lt moment until

-- The answer is for this, and was heard at a moment from `start` on, and before `until`.
pub record AnswersInTime (q : AskedAnswer) (start : ℕ) (until : Option ℕ) (a : Reply) : Type 0 where
  pub for_it : a.asked ≡ q
  pub not_before : start ≤ a.moment
  pub before : is_before until a.moment ≡ true

-- The first of the answers for this in that time, or none where there is none. Of two at one moment
-- an acknowledgement comes first.
abbrev pub IsFirstAnswer : List Reply → AskedAnswer → ℕ → Option ℕ → Option Reply → Type 0
IsFirstAnswer replies q start until None =
    (a : Reply) → a ∈ replies → AnswersInTime q start until a → ⊥
IsFirstAnswer replies q start until (Some a) = (a ∈ replies) × AnswersInTime q start until a
    × ((b : Reply) → b ∈ replies → AnswersInTime q start until b → IsUpTo reply_cmp a b)

-- ---- one answer after another

-- Whether an answer comes before the least that counts.
abbrev pub is_early : Reply → Reply → Bool
is_early least x = is_lt (reply_cmp x least)

-- Whether an answer is for what the least is for, and was heard before `until`.
abbrev pub is_timely : Reply → Option ℕ → Reply → Bool
is_timely least until x = is_eq (asked_cmp x.asked least.asked) && is_before until x.moment

-- The first of the answers, if it is for what the least is for, and was heard before `until`.
abbrev pub chosen_of : Reply → Option ℕ → List Reply → Option Reply
chosen_of least until [] = None
chosen_of least until (x ∷ xs) = if is_timely least until x then Some x else None

-- Among answers in order, the first that isn't early, if it is timely.
abbrev pub first_in_time : Reply → Option ℕ → List Reply → Option Reply
first_in_time least until [] = None
first_in_time least until (x ∷ xs) =
    if is_early least x then first_in_time least until xs else chosen_of least until (x ∷ xs)

-- Among answers in order, that is the first answer.
abbrev pub PlainIsFirst : Type 0
PlainIsFirst = (replies : List Reply) (least : Reply) (until : Option ℕ)
    → Ordered (IsUpTo reply_cmp) replies → least.is_rejection ≡ false
    → IsFirstAnswer replies least.asked least.moment until (first_in_time least until replies)
