-- Lemmas on the text of a table.
use Rattle.aprs_runs.proofs.Common.{◌≡◌, ◌∙◌, ℕ, List, ap, subst, sym, BookOf, BookValue, millis_of, SameMembers, unique, Received}
use Rattle.aprs_arguments.specs.declared.jobs.Table.{Table}
use Rattle.aprs_arguments.specs.declared.jobs.Table.TheVariants as table
use Rattle.aprs_table.specs.Table.{table_text}
use Rattle.std.proofs.Common.{None, Some}
use Rattle.aprs_transmissions.specs.Row.{Row}
use Rattle.aprs_lists.proofs.OneNet.{one_net}
use Rattle.aprs_lists.specs.Net.{AreNetMessages}
use Rattle.aprs_lists.specs.Told.{told_table}
use Rattle.aprs_lists.proofs.OneTable.{one_messages, one_stations, one_things}
use Rattle.aprs_runs.specs.TableOf.{IsTableOf}
use Rattle.aprs_runs.specs.ToldBook.{IsTable}

-- a table of a book of this gap tells of each set whose book it is
pub table_of_book : (t : Table) (gap : ℕ) (b : BookValue) (text : List ℕ) → b.gap ≡ gap
    → IsTable t b text → (S : List Received) → BookOf (millis_of gap) S b.rows
    → IsTableOf t gap S text
table_of_book table.Rows gap b text same h S book =
    record { rows = b.rows; book = book; text_is = h }
table_of_book (table.Messages (Some message_gap)) gap b text same h S book = record {
  rows = b.rows;
  told = h.told;
  book = book;
  are_messages =
      subst (λ g. AreNetMessages (millis_of g) (millis_of message_gap) b.rows h.told) same
      h.are_messages;
  text_is = h.text_is;
}
table_of_book (table.Messages None) gap b text same h S book =
    let own = subst (λ g. BookOf (millis_of g) S b.rows) (sym same) book in
    record { messages = h.messages; are_messages = h.are_messages S own; text_is = h.text_is }
table_of_book table.Stations gap b text same h S book =
    let own = subst (λ g. BookOf (millis_of g) S b.rows) (sym same) book in
    record {
      rows = b.rows;
      stations = h.stations;
      book = book;
      are_stations = h.are_stations S own;
      text_is = h.text_is;
    }
table_of_book table.Things gap b text same h S book =
    let own = subst (λ g. BookOf (millis_of g) S b.rows) (sym same) book in
    record { things = h.things; are_things = h.are_things S own; text_is = h.text_is }

pub one_table : (t : Table) (gap : ℕ) (S T : List Received) (text other : List ℕ)
    → SameMembers S T → IsTableOf t gap S text → IsTableOf t gap T other → text ≡ other
one_table table.Rows gap S T text other same p q = p.text_is
    ∙ ap table_text (unique (millis_of gap) S T p.rows q.rows same p.book q.book)
    ∙ sym q.text_is
one_table (table.Messages (Some message_gap)) gap S T text other same p q =
    let rows = unique (millis_of gap) S T p.rows q.rows same p.book q.book in
    p.text_is ∙ (ap told_table (one_net (millis_of gap) (millis_of message_gap) p.rows
    (λ x m. ((p.book.exactly x).0 m).run.in_order) p.told q.told p.are_messages
    (subst (λ (rs : List Row). AreNetMessages (millis_of gap) (millis_of message_gap) rs q.told)
    (sym rows) q.are_messages)) ∙ sym q.text_is)
one_table (table.Messages None) gap S T text other same p q = p.text_is
    ∙ (one_messages S T same p.messages q.messages p.are_messages q.are_messages ∙ sym q.text_is)
one_table table.Stations gap S T text other same p q = p.text_is
    ∙ (one_stations S T same (millis_of gap) p.rows q.rows p.book q.book p.stations q.stations
    p.are_stations q.are_stations ∙ sym q.text_is)
one_table table.Things gap S T text other same p q = p.text_is
    ∙ (one_things S T same p.things q.things p.are_things q.are_things ∙ sym q.text_is)
