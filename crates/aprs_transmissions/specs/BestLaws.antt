-- What holds of what is last known. Here the property of a key is that it passes a test.
use Rattle.std.specs.Prelude.{◌≡◌, ℕ, Bool, IsTrue, List, map, Option, None, ◌↔◌}
use Rattle.aprs_log.specs.Reception.{Received}
use Rattle.aprs_transmissions.specs.Lists.{SameMembers}
use Rattle.aprs_transmissions.specs.Key.{Key}
use Rattle.aprs_transmissions.specs.Row.{Row}
use Rattle.aprs_transmissions.specs.Book.{BookOf}
use Rattle.aprs_transmissions.specs.Best.{LastKnown, known_of}

-- The test holds of a key.
abbrev pub Passes : (Key → Bool) → Key → Type 0
Passes test key = IsTrue (test key)

-- Something is last known, or nothing: one of the two always holds.
abbrev pub SomeIsLastKnown : Type 0
SomeIsLastKnown =
    (test : Key → Bool) (S : List Received)
    → (known : Option Received) × LastKnown S (Passes test) known

-- Looking at one reception after another finds what is last known.
abbrev pub PlainIsLastKnown : Type 0
PlainIsLastKnown =
    (test : Key → Bool) (S : List Received) → LastKnown S (Passes test) (known_of test None S)

-- Sets with the same members have the same last known reception, or both have none.
abbrev pub MembersDecideLastKnown : Type 0
MembersDecideLastKnown =
    (test : Key → Bool) (S T : List Received) (x y : Option Received) → SameMembers S T
    → LastKnown S (Passes test) x → LastKnown T (Passes test) y → x ≡ y

-- What is last known of a set is what is last known of the greatest receptions of its book's rows.
abbrev pub RowsTellLastKnown : Type 0
RowsTellLastKnown =
    (gap : ℕ) (test : Key → Bool) (S : List Received) (rows : List Row) (known : Option Received)
    → BookOf gap S rows
    → LastKnown S (Passes test) known
    ↔ LastKnown (map (λ (x : Row). x.greatest) rows) (Passes test) known
