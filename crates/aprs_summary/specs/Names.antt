-- The objects and items of a set of receptions.
use Rattle.std.specs.Prelude.{◌≡◌, ◌↔◌, ℕ, Bool, true, false, List, Option, Some, None}
use Rattle.std.specs.Ordering.{on, then_cmp, bool_cmp}
use Rattle.std.specs.declared.cmp.Ordering.{Ordering}
use Rattle.aprs_log.specs.Reception.{Received, bytes_cmp}
use Rattle.aprs_report.specs.Reading.{Value, object, item}
use Rattle.aprs_transmissions.specs.Lists.{◌∈◌, Ordered}
use Rattle.aprs_transmissions.specs.Order.{IsBelow}
use Rattle.aprs_transmissions.specs.Key.{Key, key_of}
use Rattle.aprs_transmissions.specs.Row.{Row}
use Rattle.aprs_transmissions.specs.Book.{BookOf}
use Rattle.aprs_transmissions.specs.Best.{IsBest}
use Rattle.aprs_summary.specs.declared.lists.named.Named.{Named}
use Rattle.aprs_summary.specs.Reports.{report_of}

-- An object or an item, and its name: those of one name are two things.
pub record Thing : Type 0 where
  pub is_item : Bool
  pub name : List ℕ

-- The object or item that a report is of, if it is of one.
abbrev pub reported_thing : Value → Option Thing
reported_thing (object name live stamp place symbol comment) =
    Some (record { is_item = false; name = name })
reported_thing (item name live place symbol comment) = Some (record { is_item = true; name = name })
reported_thing v = None

-- A key that reports this thing, live or killed, from any station.
abbrev pub ReportsOf : Thing → Key → Type 0
ReportsOf t k = reported_thing (report_of k) ≡ Some t

-- The order of things: objects by name, then items by name.
abbrev pub thing_cmp : Thing → Thing → Ordering
thing_cmp = then_cmp (on (λ t. t.is_item) bool_cmp) (on (λ t. t.name) bytes_cmp)

-- The object or item of a row of the list.
abbrev pub shown_thing : Named → Thing
shown_thing x = record { is_item = x.is_item; name = x.name.now }

-- An object or an item, and its last report.
abbrev pub shown_report : Named → Thing × Received
shown_report x = (shown_thing x, x.heard)

-- The one's object or item is below the other's.
abbrev pub IsNamedBefore : Named → Named → Type 0
IsNamedBefore x y = IsBelow thing_cmp (shown_thing x) (shown_thing y)

-- One row for each thing that S has a report of, in order, with the greatest reception that
-- reports it.
pub record AreNamed (S : List Received) (xs : List Named) : Type 0 where
  pub ascending : Ordered IsNamedBefore xs
  pub things : (t : Thing) → ((x : Named) × (x ∈ xs) × (shown_thing x ≡ t))
      ↔ ((s : Received) × (s ∈ S) × ReportsOf t (key_of s.frame))
  pub each : (x : Named) → x ∈ xs → IsBest S (ReportsOf (shown_thing x)) x.heard

-- Whatever set the rows are the book of, these are its objects and items.
abbrev pub ReportsNamed : ℕ → List Row → List Named → Type 0
ReportsNamed gap rows xs = (S : List Received) → BookOf gap S rows → AreNamed S xs
