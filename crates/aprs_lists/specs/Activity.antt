-- How active stations were: when each was heard last, and how many frames of others it passed on.
use Rattle.std.specs.Prelude.{◌≡◌, ℕ, ◌+◌, max, Bool, if◌then◌else◌, List, [], ◌∷◌, map, Option, None, Some}
use Rattle.std.specs.BTreeMap.{insert_entry, is_at}
use Rattle.std.specs.List.{count_by, filter}
use Rattle.std.specs.Map.{lookup}
use Rattle.std.specs.Option.{is_some, option_map}
use Rattle.aprs_ax25.specs.Callsign.{Call, call_cmp}
use Rattle.aprs_details.specs.ThirdParty.{passed_of}
use Rattle.aprs_transmissions.specs.Row.{Row, last_moment, row_key}
use Rattle.aprs_summary.specs.Reports.{has_source}
use Rattle.aprs_lists.specs.declared.activity.Active.{Active}
use Rattle.aprs_lists.specs.declared.activity.Activity.{Activity}

-- The rows of a station, those of frames that it passed on too.
abbrev pub rows_from : Call → List Row → List Row
rows_from call rows = filter (λ (r : Row). has_source call (row_key r)) rows

-- The later of a moment and another, if there is one.
abbrev pub later : ℕ → Option ℕ → ℕ
later m None = m
later m (Some n) = max m n

-- The latest of some moments, or none where there are none.
abbrev pub latest : List ℕ → Option ℕ
latest [] = None
latest (m ∷ ms) = Some (later m (latest ms))

-- When a station was heard last, whatever it sent; none where it has no row.
abbrev pub heard_last : Call → List Row → Option ℕ
heard_last call rows = latest (map last_moment (rows_from call rows))

-- Whether the frame of a row passes on another one.
abbrev pub passes_on : Row → Bool
passes_on r = is_some (passed_of (row_key r).info)

-- How many frames of others a station passed on.
abbrev pub frames_passed : Call → List Row → ℕ
frames_passed call rows = count_by passes_on (rows_from call rows)

-- ---- in the code

-- When a station was heard last, by what is kept of it.
abbrev pub heard_kept : Option Activity → Option ℕ
heard_kept known = option_map (λ (a : Activity). a.heard) known

-- How many frames of others it passed on, by what is kept of it.
abbrev pub passed_kept : Option Activity → ℕ
passed_kept None = 0
passed_kept (Some a) = a.passed

-- What is kept of a station among these entries, if anything is.
abbrev pub kept_of : Call → List (Call × Activity) → Option Activity
kept_of call es = lookup (is_at (call_cmp call)) es

-- What is kept of a station after one more row of this last moment.
abbrev pub with_row : Option Activity → ℕ → Bool → Activity
with_row known moment passes = record {
  heard = later moment (heard_kept known);
  passed = passed_kept known + (if passes then 1 else 0);
}

-- What is kept after one more row of a station, of this last moment.
abbrev pub with_one_more : Call → ℕ → Bool → List (Call × Activity) → List (Call × Activity)
with_one_more call moment passes es =
    insert_entry call_cmp es call (with_row (kept_of call es) moment passes)

-- What is kept, with that of the station that was counted last, if there is one.
abbrev pub with_last : Option Active → List (Call × Activity) → List (Call × Activity)
with_last None es = es
with_last (Some a) es = insert_entry call_cmp es a.station a.activity

-- The entries say of each station how active it was in these rows.
pub record AreActivities (rows : List Row) (es : List (Call × Activity)) : Type 0 where
  pub heard : (call : Call) → heard_kept (kept_of call es) ≡ heard_last call rows
  pub passed : (call : Call) → passed_kept (kept_of call es) ≡ frames_passed call rows
