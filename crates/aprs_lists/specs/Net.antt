-- The table of the messages of a net: each time that one was sent.
use Rattle.std.specs.Prelude.{◌≡◌, ℕ, List}
use Rattle.aprs_transmissions.specs.BookValue.{BookValue}
use Rattle.aprs_transmissions.specs.Gap.{millis_of}
use Rattle.aprs_transmissions.specs.Row.{Row}
use Rattle.aprs_lists.specs.Answers.{Reply}
use Rattle.aprs_lists.specs.Copies.{Copy}
use Rattle.aprs_lists.specs.Runs.{AreSent, Sent}
use Rattle.aprs_lists.specs.Told.{AreTold, Told, told_table}
use Rattle.aprs_lists.specs.Traffic.{AreGiven, GivesCopy, GivesNetReply}

-- These are the messages of a net, told in order, of the rows of a book of this gap: the runs of
-- all copies under the message gap, each with its first answers. Both gaps are in milliseconds.
pub record AreNetMessages (gap message_gap : ℕ) (rows : List Row) (told : List Told) : Type 0 where
  pub copies : List Copy
  pub replies : List Reply
  pub sent : List Sent
  pub are_copies : AreGiven GivesCopy rows copies
  pub are_replies : AreGiven GivesNetReply rows replies
  pub are_sent : AreSent message_gap copies sent
  pub are_told : AreTold gap replies sent told

-- The text is the table of the messages of a net, under this message gap in seconds.
pub record IsNetTable (message_gap : ℕ) (book : BookValue) (text : List ℕ) : Type 0 where
  pub told : List Told
  pub are_messages : AreNetMessages (millis_of book.gap) (millis_of message_gap) book.rows told
  pub text_is : text ≡ told_table told
