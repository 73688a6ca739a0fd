-- Lemmas on the text of a history.
use Rattle.aprs_runs.proofs.Common.{codes, ◌≡◌, ◌∙◌, ℕ, Bool, true, List, [], ◌∷◌, ◌++◌, map, Some, None, inl, inr, refl, ap, sym, flat_map-append, Call, LastKnown, Passes, BookOf, BookValue, millis_of, SameMembers, ◌∈◌, Row, unique, rows_know, has_source, is_item_named, is_object_named, is_position_report, report_of, reports_item, reports_object, reports_position, without_spaces, Received, report_line}
use Rattle.std.proofs.lemmas.Bool.{and_parts}
use Rattle.aprs_ax25.specs.FrameFault.{parts_of}
use Rattle.aprs_report.specs.Reader.{reading_of}
use Rattle.aprs_report.specs.Reading.{Value, position, object, item, message, ack, rej, status, raw}
use Rattle.aprs_transmissions.specs.Key.{Key, key_of}
use Rattle.aprs_table.specs.History.{history_line, history_text, row_fields, told_line}
use Rattle.aprs_runs.specs.HistoryOf.{IsHistoryOf, TellsNamed, TellsPlace}
use Rattle.aprs_runs.specs.ToldBook.{IsHistory}

-- the history of a book of this gap tells of each set whose book it is
pub history_of_book : (gap : ℕ) (b : BookValue) (text : List ℕ) → b.gap ≡ gap → IsHistory b text
    → (S : List Received) → BookOf (millis_of gap) S b.rows → IsHistoryOf gap S text
history_of_book gap b text same h S book =
    record { rows = b.rows; book = book; text_is = h.1; lines = h.0 }

pub one_history : (gap : ℕ) (S T : List Received) (text other : List ℕ) → SameMembers S T
    → IsHistoryOf gap S text → IsHistoryOf gap T other → text ≡ other
one_history gap S T text other same p q = p.text_is
    ∙ ap history_text (unique (millis_of gap) S T p.rows q.rows same p.book q.book)
    ∙ sym q.text_is

-- ---- the places in it

-- a row whose greatest reception is x
record Cut (rows : List Row) (x : Received) : Type 0 where
  before : List Row
  row : Row
  after : List Row
  is : row.greatest ≡ x
  whole : rows ≡ before ++ row ∷ after

cut_at : (rows : List Row) (x : Received) → x ∈ map (λ (y : Row). y.greatest) rows → Cut rows x
cut_at [] x m = absurd m
cut_at (y ∷ ys) x (inl e) = record { before = []; row = y; after = ys; is = e; whole = refl }
cut_at (y ∷ ys) x (inr m) =
    let rest = cut_at ys x m in
    record {
      before = y ∷ rest.before;
      row = rest.row;
      after = rest.after;
      is = rest.is;
      whole = ap (λ l. y ∷ l) rest.whole;
    }

-- what a frame is read as
info_of : (frame : List ℕ) → (key_of frame).info ≡ (parts_of frame).info
unfolding key_of
info_of frame = refl

-- the text has the line of a row whose greatest reception is x, and x reports v
record LineOf (text : List ℕ) (x : Received) (v : Value) : Type 0 where
  before : List Row
  row : Row
  after : List Row
  is : row.greatest ≡ x
  text_is : text ≡ history_text before ++ (history_line row ++ history_text after)
  listed : report_line x (report_of (key_of x.frame)) ≡ report_line x v
  told : history_line row ≡ told_line (row_fields row) (parts_of row.greatest.frame) v

line_of : (gap : ℕ) (S : List Received) (text : List ℕ) (test : Key → Bool) (x : Received)
    → IsHistoryOf gap S text → LastKnown S (Passes test) (Some x)
    → LineOf text x (report_of (key_of x.frame))
line_of gap S text test x h best =
    let its = rows_know (millis_of gap) S h.rows (Passes test) (Some x) h.book best in
    let cut = cut_at h.rows x its.member in
    record {
      before = cut.before;
      row = cut.row;
      after = cut.after;
      is = cut.is;
      text_is = h.text_is ∙ ap history_text cut.whole
          ∙ flat_map-append history_line cut.before (cut.row ∷ cut.after);
      listed = refl;
      told = ap (told_line (row_fields cut.row) (parts_of cut.row.greatest.frame))
          (ap (λ (y : Received). reading_of (parts_of y.frame).info) cut.is
          ∙ ap reading_of (sym (info_of x.frame)));
    }

place_of : {text : List ℕ} {x : Received} (v : Value) → is_position_report v ≡ true
    → LineOf text x v → TellsPlace text x
place_of (position messaging stamp place symbol comment) e l = record {
  before = l.before;
  row = l.row;
  after = l.after;
  is = l.is;
  text_is = l.text_is;
  stamp = stamp;
  place = place;
  symbol = symbol;
  comment = comment;
  listed = l.listed;
  told = l.told;
}
place_of (object name live stamp place symbol comment) e l = absurd cc
place_of (item name live place symbol comment) e l = absurd cc
place_of (message addressee said id) e l = absurd cc
place_of (ack addressee id) e l = absurd cc
place_of (rej addressee id) e l = absurd cc
place_of (status stamp said) e l = absurd cc
place_of raw e l = absurd cc

object_of : {text : List ℕ} {x : Received} (wanted : List ℕ) (v : Value)
    → is_object_named wanted v ≡ true → LineOf text x v → TellsNamed (codes "object") text x
object_of wanted (object name live stamp place symbol comment) e l = record {
  before = l.before;
  row = l.row;
  after = l.after;
  is = l.is;
  text_is = l.text_is;
  name = name;
  live = live;
  stamp = Some stamp;
  place = place;
  symbol = symbol;
  comment = comment;
  listed = l.listed;
  told = l.told;
}
object_of wanted (position messaging stamp place symbol comment) e l = absurd cc
object_of wanted (item name live place symbol comment) e l = absurd cc
object_of wanted (message addressee said id) e l = absurd cc
object_of wanted (ack addressee id) e l = absurd cc
object_of wanted (rej addressee id) e l = absurd cc
object_of wanted (status stamp said) e l = absurd cc
object_of wanted raw e l = absurd cc

item_of : {text : List ℕ} {x : Received} (wanted : List ℕ) (v : Value)
    → is_item_named wanted v ≡ true → LineOf text x v → TellsNamed (codes "item") text x
item_of wanted (item name live place symbol comment) e l = record {
  before = l.before;
  row = l.row;
  after = l.after;
  is = l.is;
  text_is = l.text_is;
  name = name;
  live = live;
  stamp = None;
  place = place;
  symbol = symbol;
  comment = comment;
  listed = l.listed;
  told = l.told;
}
item_of wanted (position messaging stamp place symbol comment) e l = absurd cc
item_of wanted (object name live stamp place symbol comment) e l = absurd cc
item_of wanted (message addressee said id) e l = absurd cc
item_of wanted (ack addressee id) e l = absurd cc
item_of wanted (rej addressee id) e l = absurd cc
item_of wanted (status stamp said) e l = absurd cc
item_of wanted raw e l = absurd cc

pub tells_place_of : (gap : ℕ) (S : List Received) (text : List ℕ) (call : Call) (x : Received)
    → IsHistoryOf gap S text → LastKnown S (Passes (reports_position call)) (Some x)
    → TellsPlace text x
tells_place_of gap S text call x h best =
    let key = key_of x.frame in
    let is = and_parts (has_source call key) (is_position_report (report_of key)) best.property in
    place_of (report_of key) is.1 (line_of gap S text (reports_position call) x h best)

pub tells_object_of : (gap : ℕ) (S : List Received) (text name : List ℕ) (x : Received)
    → IsHistoryOf gap S text → LastKnown S (Passes (reports_object name)) (Some x)
    → TellsNamed (codes "object") text x
tells_object_of gap S text name x h best =
    object_of (without_spaces name) (report_of (key_of x.frame)) best.property
    (line_of gap S text (reports_object name) x h best)

pub tells_item_of : (gap : ℕ) (S : List Received) (text name : List ℕ) (x : Received)
    → IsHistoryOf gap S text → LastKnown S (Passes (reports_item name)) (Some x)
    → TellsNamed (codes "item") text x
tells_item_of gap S text name x h best =
    item_of (without_spaces name) (report_of (key_of x.frame)) best.property
    (line_of gap S text (reports_item name) x h best)
