-- What is last known, by the bytes of what it is known of.
use Rattle.std.specs.Prelude.{◌≡◌, ℕ, Bool, false, if◌then◌else◌, List, [], ◌∷◌, Option, None, Some, map}
use Rattle.std.specs.Option.{IsSome, option_map}
use Rattle.std.specs.Ordering.{is_eq}
use Rattle.std.specs.Map.{lookup}
use Rattle.std.specs.BTreeMap.{is_at}
use Rattle.aprs_ax25.specs.Callsign.{Call, call_text}
use Rattle.aprs_log.specs.Reception.{Received, bytes_cmp}
use Rattle.aprs_report.specs.Reading.{Value, position, status, object, item}
use Rattle.aprs_transmissions.specs.Order.{IsBelow}
use Rattle.aprs_transmissions.specs.Key.{Key}
use Rattle.aprs_transmissions.specs.Row.{Row}
use Rattle.aprs_transmissions.specs.Best.{LastKnown, greater_known}
use Rattle.aprs_transmissions.specs.BestLaws.{Passes}
use Rattle.aprs_summary.specs.declared.known.subject.Subject.{Subject}
use Rattle.aprs_summary.specs.declared.known.subject.Subject.TheVariants.{Position, Status, Object, Item}
use Rattle.aprs_summary.specs.Reports.{report_of}

-- ---- one index

-- Receptions by the bytes of what they report on; an entry may be empty.
abbrev pub Entries : Type 0
Entries = List (List ℕ × Option Received)

-- The entry at the bytes, where there is one.
abbrev pub entry_at : List ℕ → Entries → Option (Option Received)
entry_at bytes es = lookup (is_at (bytes_cmp bytes)) es

-- The entries of a map whose keys show these bytes and whose values keep these receptions.
abbrev pub plain_entries : {K X : Type 0} → (K → List ℕ) → (X → Received) → List (K × Option X)
    → Entries
plain_entries bytes received [] = []
plain_entries bytes received (e ∷ es) =
    (bytes e.0, option_map received e.1) ∷ plain_entries bytes received es

-- What is known by an entry, if there is one. No entry and an empty entry say the same: nothing is
-- known.
abbrev pub entry_known : {X : Type 0} → Option (Option X) → Option X
entry_known None = None
entry_known (Some known) = known

-- The reception at the bytes, if one is known.
abbrev pub known_at : List ℕ → Entries → Option Received
known_at bytes es = entry_known (entry_at bytes es)

-- There is an entry at the bytes, empty or not.
abbrev pub HasEntry : List ℕ → Entries → Type 0
HasEntry bytes es = IsSome (entry_at bytes es)

-- The one's bytes are below the other's.
abbrev pub IsEntryBefore : List ℕ × Option Received → List ℕ × Option Received → Type 0
IsEntryBefore a b = IsBelow bytes_cmp a.0 b.0

-- Whether what is reported on has these bytes.
abbrev pub has_bytes : List ℕ → Option (List ℕ) → Bool
has_bytes bytes None = false
has_bytes bytes (Some reported) = is_eq (bytes_cmp reported bytes)

-- Whether a key reports on what has these bytes.
abbrev pub is_report_on : (Key → Option (List ℕ)) → List ℕ → Key → Bool
is_report_on reported bytes k = has_bytes bytes (reported k)

-- A row's greatest reception.
abbrev pub greatest_of : Row → Received
greatest_of x = x.greatest

-- What is known at any bytes: of the rows' greatest receptions that report on what has these bytes
-- the greatest, or nothing where none does.
abbrev pub IsIndexOf : (Key → Option (List ℕ)) → List Row → Entries → Type 0
IsIndexOf reported rows es = (bytes : List ℕ)
    → LastKnown (map greatest_of rows) (Passes (is_report_on reported bytes)) (known_at bytes es)

-- ---- what reports are about

-- Where a station is, what its status is, and the last report of an object or an item.
pub data Topic : Type 0 where
  positions : Topic
  statuses : Topic
  objects : Topic
  items : Topic

-- The bytes of a callsign: its SSID, and then its text.
abbrev pub call_bytes : Call → List ℕ
call_bytes call = call.ssid ∷ call_text call

-- The bytes of what a station's report is about by this topic.
abbrev pub report_bytes : Topic → Call → Value → Option (List ℕ)
report_bytes positions call (position messaging stamp place symbol comment) = Some (call_bytes call)
report_bytes statuses call (status stamp text) = Some (call_bytes call)
report_bytes objects call (object name live stamp place symbol comment) = Some name
report_bytes items call (item name live place symbol comment) = Some name
report_bytes topic call v = None

-- The bytes of what a key reports on by this topic.
abbrev pub topic_bytes : Topic → Key → Option (List ℕ)
topic_bytes topic k = report_bytes topic k.source (report_of k)

-- ---- the four indexes

-- An index for each topic.
pub record FourIndexes : Type 0 where
  pub positions : Entries
  pub statuses : Entries
  pub objects : Entries
  pub items : Entries

-- The index of a topic.
abbrev pub index_of : Topic → FourIndexes → Entries
index_of positions i = i.positions
index_of statuses i = i.statuses
index_of objects i = i.objects
index_of items i = i.items

-- Of everything the same is known as before.
abbrev pub SameKnown : FourIndexes → FourIndexes → Type 0
SameKnown old new = (topic : Topic) (bytes : List ℕ)
    → known_at bytes (index_of topic new) ≡ known_at bytes (index_of topic old)

-- Each topic's index is that of the rows' reports on it.
abbrev pub AreIndexesOf : List Row → FourIndexes → Type 0
AreIndexesOf rows indexes = (topic : Topic) → IsIndexOf (topic_bytes topic) rows
    (index_of topic indexes)

-- ---- what a frame reports on, as the code has it

-- The bytes of what a frame reports on by this topic.
abbrev pub subject_bytes : Topic → Subject → Option (List ℕ)
subject_bytes positions (Position call) = Some call.items
subject_bytes statuses (Status call) = Some call.items
subject_bytes objects (Object name) = Some name.now
subject_bytes items (Item name) = Some name.now
subject_bytes topic t = None

-- The index of this subject has an entry for it.
abbrev pub HaveEntries : Subject → FourIndexes → Type 0
HaveEntries t indexes = (topic : Topic) (bytes : List ℕ) → subject_bytes topic t ≡ Some bytes
    → HasEntry bytes (index_of topic indexes)

-- What is last known of the subject is now the greater of x and what was known of it. Of all else
-- the same is known as before.
abbrev pub NotesReport : Subject → Received → FourIndexes → FourIndexes → Type 0
NotesReport subject x old new = (topic : Topic) (bytes : List ℕ)
    → known_at bytes (index_of topic new)
    ≡ (if has_bytes bytes (subject_bytes topic subject)
    then Some (greater_known (known_at bytes (index_of topic old)) x)
    else known_at bytes (index_of topic old))
