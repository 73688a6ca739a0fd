-- What the rows of a book hold of messages: their copies, and the answers to them.
use Rattle.std.specs.Prelude.{◌≡◌, ◌↔◌, ℕ, Bool, true, false, List, [], ◌∷◌, ◌++◌, map, Option, None, Some}
use Rattle.std.specs.Ordering.{on}
use Rattle.aprs_ax25.specs.CallText.{SpellsCall}
use Rattle.aprs_report.specs.Reader.{reading_of}
use Rattle.aprs_report.specs.Reading.{Value, message, ack, rej}
use Rattle.aprs_transmissions.specs.Lists.{◌∈◌, Ordered}
use Rattle.aprs_transmissions.specs.Order.{IsUpTo}
use Rattle.aprs_transmissions.specs.Row.{Row, last_moment, row_key}
use Rattle.aprs_lists.specs.Answers.{Reply, reply_cmp, reply_of}
use Rattle.aprs_lists.specs.Copies.{Copy, copy_cmp, copy_of}
use Rattle.aprs_summary.specs.Messages.{Message, reported_message}
use Rattle.aprs_lists.specs.declared.net.answers.Answer.{Answer}
use Rattle.aprs_lists.specs.declared.net.copies.MessageCopy.{MessageCopy}
use Rattle.aprs_summary.specs.ReplyAcks.{IsReplyAckText}
use Rattle.aprs_lists.specs.Said.{Said, said_in}
use Rattle.aprs_lists.specs.declared.traffic.AnswerParts.{AnswerParts}

-- ---- copies of messages

-- What is said is this message.
abbrev pub SaysMessage : Said → Message → Type 0
SaysMessage s m = reported_message s.source (reading_of s.info) ≡ Some m

-- The row is a copy of a message: it says the message, from its first to its last moment.
pub record GivesCopy (x : Row) (c : Copy) : Type 0 where
  pub said : Said
  pub is_said : said_in (row_key x) ≡ Some said
  pub message : SaysMessage said c.message
  pub gate : c.gate ≡ said.gate
  pub first : c.first ≡ x.first
  pub last : c.last ≡ last_moment x

-- ---- answers

-- To whom a report answers, the id or the number that it answers, whether by a reply-ack, and
-- whether it rejects the message.
pub record Answering : Type 0 where
  pub addressee : List ℕ
  pub number : List ℕ
  pub is_reply : Bool
  pub is_rejection : Bool

-- The report answers so: it is an ack or a rej, or a message without an id whose text is a
-- reply-ack.
pub data SaysAnswer (a : Answering) (v : Value) : Type 0 where
  by_ack : v ≡ ack a.addressee a.number → a.is_reply ≡ false
      → a.is_rejection ≡ false → SaysAnswer a v
  by_rej : v ≡ rej a.addressee a.number → a.is_reply ≡ false
      → a.is_rejection ≡ true → SaysAnswer a v
  by_reply : (text : List ℕ) → v ≡ message a.addressee text None → IsReplyAckText a.number text →
      a.is_reply ≡ true → a.is_rejection ≡ false → SaysAnswer a v

-- The row is an answer, at its first moment. Who says it answers, to the station whose message is
-- answered.
pub record GivesNetReply (x : Row) (a : Reply) : Type 0 where
  pub said : Said
  pub is_said : said_in (row_key x) ≡ Some said
  pub addressee : List ℕ
  pub answer : SaysAnswer (record {
    addressee = addressee;
    number = a.asked.number;
    is_reply = a.asked.is_reply;
    is_rejection = a.is_rejection;
  }) (reading_of said.info)
  pub answerer : a.asked.answerer ≡ said.source
  pub to : SpellsCall a.asked.source addressee
  pub moment : a.moment ≡ x.first

-- ---- of all rows

-- The list has exactly what the rows give.
abbrev pub AreGiven : {A : Type 0} → (Row → A → Type 0) → List Row → List A → Type 0
AreGiven {A} Gives rows xs = (a : A) → (a ∈ xs) ↔ ((x : Row) × (x ∈ rows) × Gives x a)

-- ---- in the code

-- The list, and one more behind if there is one.
abbrev pub with_one : {A : Type 0} → List A → Option A → List A
with_one xs None = xs
with_one xs (Some x) = xs ++ x ∷ []

-- What the parts of the code answer.
abbrev pub answering_of : AnswerParts → Answering
answering_of x = record {
  addressee = x.addressee.now;
  number = x.number.now;
  is_reply = x.is_reply;
  is_rejection = x.is_rejection;
}

-- The copies and the answers are exactly those that the rows give, each in order.
pub record IsGathered (rows : List Row) (copies : List MessageCopy) (answers : List Answer)
    : Type 0 where
  pub copies_given : AreGiven GivesCopy rows (map copy_of copies)
  pub answers_given : AreGiven GivesNetReply rows (map reply_of answers)
  pub copies_ordered : Ordered (IsUpTo (on copy_of copy_cmp)) copies
  pub answers_ordered : Ordered (IsUpTo (on reply_of reply_cmp)) answers
