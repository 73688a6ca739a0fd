-- The table of the messages of a book.
use Rattle.std.specs.Prelude.{◌≡◌, ◌++◌, ℕ, List}
use Rattle.std.specs.List.{flat_map}
use Rattle.aprs_transmissions.specs.BookValue.{BookValue}
use Rattle.aprs_transmissions.specs.Gap.{millis_of}
use Rattle.aprs_summary.specs.Messages.{ReportsMessages}
use Rattle.aprs_summary.specs.declared.lists.message.MessageRow.{MessageRow}
use Rattle.aprs_lists.specs.Lines.{tabbed_line}
use Rattle.aprs_lists.specs.Told.{listed_line, message_columns}

-- The names of the columns, and one line for each message of the listing, in their order.
abbrev pub messages_table : List MessageRow → List ℕ
messages_table messages = tabbed_line message_columns ++ flat_map listed_line messages

-- The text is the table of the messages that the listing has of the book's rows, whichever
-- receptions these come from.
pub record IsMessagesTable (book : BookValue) (text : List ℕ) : Type 0 where
  pub messages : List MessageRow
  pub are_messages : ReportsMessages (millis_of book.gap) book.rows messages
  pub text_is : text ≡ messages_table messages
