-- Copies of messages, and the messages that they are copies of.
use Rattle.std.specs.Prelude.{ℕ, Option}
use Rattle.std.specs.Option.{option_cmp, option_map}
use Rattle.std.specs.Ordering.{nat_cmp, on, then_cmp}
use Rattle.std.specs.declared.cmp.Ordering.{Ordering}
use Rattle.aprs_ax25.specs.Callsign.{Call, call_cmp}
use Rattle.aprs_summary.specs.Messages.{Message, message_cmp}
use Rattle.aprs_lists.specs.declared.net.copies.MessageCopy.{MessageCopy}
use Rattle.aprs_lists.specs.declared.net.copies.MessageName.{MessageName}

-- A copy of a message: from when to when it was heard, and the station that passed it on, or none
-- where its sender itself was heard.
pub record Copy : Type 0 where
  pub message : Message
  pub first : ℕ
  pub gate : Option Call
  pub last : ℕ

-- The order of copies: by message, then first moment, then gate, where none comes before any, then
-- last moment.
abbrev pub copy_cmp : Copy → Copy → Ordering
copy_cmp = then_cmp (on (λ c. c.message) message_cmp)
    (then_cmp (on (λ c. c.first) nat_cmp)
    (then_cmp (on (λ c. c.gate) (option_cmp call_cmp)) (on (λ c. c.last) nat_cmp)))

-- The message that the parts of the code name.
abbrev pub message_named : MessageName → Message
message_named x = record {
  source = x.source;
  addressee = x.addressee.now;
  text = x.text.now;
  id = option_map (λ y. y.now) x.id;
}

-- The copy that the parts of the code show.
abbrev pub copy_of : MessageCopy → Copy
copy_of x =
    record { message = message_named x.message; first = x.first; gate = x.gate; last = x.last }
