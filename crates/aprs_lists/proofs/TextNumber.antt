-- The number of a text for reply-acks.
use Rattle.aprs_lists.proofs.Common.{◌≡◌, ℕ, List, None, Option, [], refl}
use Rattle.aprs_ax25.specs.Callsign.{Call}
use Rattle.aprs_summary.proofs.ReplyTexts.{same_held}
use Rattle.aprs_summary.proofs.TextNumbers.{message_number}
use Rattle.aprs_summary.specs.Messages.{Message}
use Rattle.aprs_summary.specs.ReplyAcks.{IsNumberedText}
use Rattle.aprs_summary.specs.ReplyTexts.{HoldsOnly, trailing_number}

-- a message without an id
abbrev without_id : Call → List ℕ → Message
without_id from text = record { source = from; addressee = []; text = text; id = None }

-- what holds the number of a text only is that number
pub number_held : (from : Call) (text : List ℕ) (o : Option (List ℕ))
    → HoldsOnly (λ (n : List ℕ). (a : List ℕ) × IsNumberedText n a text) o → o ≡ trailing_number text
number_held from text o h =
    same_held (λ (n : List ℕ). (a : List ℕ) × IsNumberedText n a text) o (trailing_number text) h
    (λ n. (
      λ e. ((message_number (without_id from text) n).0 e).1,
      λ k. (message_number (without_id from text) n).1 (refl, k),
    ))
