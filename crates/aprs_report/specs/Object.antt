-- Object and item reports (APRS Protocol Reference 1.0.1, chapter 11).
use Rattle.std.specs.Prelude.{◌≡◌, ℕ, ◌≤◌, Bool, true, false, not, ◌||◌, ◌==◌, List, ◌∷◌, ◌++◌}
use Rattle.std.specs.Prelude.{codes, length}
use Rattle.std.specs.List.{list_all}
use Rattle.aprs_report.specs.declared.stamp.Stamp.{Stamp}
use Rattle.aprs_report.specs.declared.symbol.Symbol.{Symbol}
use Rattle.aprs_report.specs.declared.place.Place.{Place}
use Rattle.aprs_report.specs.Stamp.{IsStamp, stamp_bytes}
use Rattle.aprs_report.specs.Place.{IsPlace}
use Rattle.aprs_report.specs.Name.{IsPaddedName}

-- The mark of an object or an item: the byte `live` where it is live, _ where it is killed.
abbrev pub state_mark : ℕ → Bool → ℕ
state_mark live true = live
state_mark live false = 95

-- The word for whether an object or an item is live.
abbrev pub live_text : Bool → List ℕ
live_text true = codes "live"
live_text false = codes "killed"

-- The field is ";", a name in nine bytes, * or _, a stamp, a position and a comment.
pub record IsObject (name : List ℕ) (live : Bool) (stamp : Stamp) (place : Place) (symbol : Symbol)
    (comment : List ℕ) (info : List ℕ) : Type 0 where
  pub field : List ℕ
  pub place_text : List ℕ
  pub nine : length field ≡ 9
  pub named : IsPaddedName name field
  pub stamped : IsStamp stamp
  pub at_place : IsPlace place symbol place_text
  pub whole : info ≡ codes ";" ++ (field ++ (state_mark 42 live ∷
      (stamp_bytes stamp ++ (place_text ++ comment))))

-- The byte is ! or _.
abbrev pub is_item_mark : ℕ → Bool
is_item_mark b = b == 33 || b == 95

-- The field is ")", a name of three to nine bytes none of which is a mark, ! or _, then a mark, a
-- position and a comment. Spaces at the name's end count among its bytes, and are cut off.
pub record IsItem (name : List ℕ) (live : Bool) (place : Place) (symbol : Symbol)
    (comment : List ℕ) (info : List ℕ) : Type 0 where
  pub field : List ℕ
  pub place_text : List ℕ
  pub at_least : 3 ≤ length field
  pub at_most : length field ≤ 9
  pub unmarked : list_all (λ b. not (is_item_mark b)) field ≡ true
  pub named : IsPaddedName name field
  pub at_place : IsPlace place symbol place_text
  pub whole : info ≡ codes ")" ++ (field ++ (state_mark 33 live ∷ (place_text ++ comment)))
