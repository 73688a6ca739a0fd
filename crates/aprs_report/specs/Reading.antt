-- Which report an information field is (APRS Protocol Reference 1.0.1, chapter 5).
use Rattle.std.specs.Prelude.{◌≡◌, ℕ, Bool, List, Option, codes}
use Rattle.std.specs.Option.{option_map}
use Rattle.aprs_report.specs.declared.stamp.Stamp.{Stamp}
use Rattle.aprs_report.specs.declared.symbol.Symbol.{Symbol}
use Rattle.aprs_report.specs.declared.place.Place.{Place}
use Rattle.aprs_report.specs.declared.report.Report.{Report}
use Rattle.aprs_report.specs.declared.report.Report.TheVariants.{Position, Object, Item, Message}
use Rattle.aprs_report.specs.declared.report.Report.TheVariants.{Ack, Rej, Status, Raw}
use Rattle.aprs_report.specs.Position.{IsPosition}
use Rattle.aprs_report.specs.Object.{IsObject, IsItem}
use Rattle.aprs_report.specs.Status.{IsStatus}
use Rattle.aprs_report.specs.Message.{IsMessage, IsReply}

-- What a report says, without where its bytes lie in memory.
pub data Value : Type 0 where
  position : (messaging : Bool) (stamp : Option Stamp) (place : Place) (symbol : Symbol)
      (comment : List ℕ) → Value
  object : (name : List ℕ) (live : Bool) (stamp : Stamp) (place : Place) (symbol : Symbol)
      (comment : List ℕ) → Value
  item : (name : List ℕ) (live : Bool) (place : Place) (symbol : Symbol) (comment : List ℕ) → Value
  message : (addressee text : List ℕ) (id : Option (List ℕ)) → Value
  ack : (addressee id : List ℕ) → Value
  rej : (addressee id : List ℕ) → Value
  status : (stamp : Option Stamp) (text : List ℕ) → Value
  raw : Value

-- What a report of the program says.
abbrev pub view : Report → Value
view (Position messaging stamp place symbol comment) =
    position messaging stamp place symbol comment.now
view (Object name live stamp place symbol comment) =
    object name.now live stamp place symbol comment.now
view (Item name live place symbol comment) = item name.now live place symbol comment.now
view (Message addressee text id) = message addressee.now text.now (option_map (λ x. x.now) id)
view (Ack addressee id) = ack addressee.now id.now
view (Rej addressee id) = rej addressee.now id.now
view (Status stamp text) = status stamp text.now
view Raw = raw

-- The name of a report's kind.
abbrev pub kind_of : Value → List ℕ
kind_of (position messaging stamp place symbol comment) = codes "position"
kind_of (object name live stamp place symbol comment) = codes "object"
kind_of (item name live place symbol comment) = codes "item"
kind_of (message addressee text id) = codes "message"
kind_of (ack addressee id) = codes "ack"
kind_of (rej addressee id) = codes "rej"
kind_of (status stamp text) = codes "status"
kind_of raw = codes "raw"

-- The field has the form of this report; a raw report has none.
abbrev pub HasForm : Value → List ℕ → Type 0
HasForm (position messaging stamp place symbol comment) info =
    IsPosition messaging stamp place symbol comment info
HasForm (object name live stamp place symbol comment) info =
    IsObject name live stamp place symbol comment info
HasForm (item name live place symbol comment) info = IsItem name live place symbol comment info
HasForm (message addressee text id) info = IsMessage addressee text id info
HasForm (ack addressee id) info = IsReply (codes "ack") addressee id info
HasForm (rej addressee id) info = IsReply (codes "rej") addressee id info
HasForm (status stamp text) info = IsStatus stamp text info
HasForm raw info = ⊥

-- The field reads as this report; it reads as raw exactly where it has the form of no other.
abbrev pub Reads : Value → List ℕ → Type 0
Reads raw info = (v : Value) → HasForm v info → ⊥
Reads v info = HasForm v info

-- The field reads as one report and no other.
abbrev pub OneReading : List ℕ → Type 0
OneReading info = (v : Value) × Reads v info × ((w : Value) → Reads w info → w ≡ v)
