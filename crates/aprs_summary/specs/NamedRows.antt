-- What the indexes know of objects and items. No public clause cites this module.
use Rattle.std.specs.Prelude.{Bool, ℕ, List, [], ◌∷◌, ◌++◌, Option, Some, None}
use Rattle.aprs_log.specs.Reception.{Received}
use Rattle.aprs_summary.specs.Names.{Thing}
use Rattle.aprs_summary.specs.Known.{Entries, plain_entries}

-- What an entry of this name knows, if anything.
abbrev pub report_in : Bool → List ℕ → Option Received → List (Thing × Received)
report_in is_item name None = []
report_in is_item name (Some g) = (record { is_item = is_item; name = name }, g) ∷ []

-- What an index of objects or of items knows, in order.
abbrev pub reports_in : Bool → Entries → List (Thing × Received)
reports_in is_item [] = []
reports_in is_item (e ∷ es) = report_in is_item e.0 e.1 ++ reports_in is_item es

-- What the entries of a map whose keys show these bytes know, in order.
abbrev pub reports_by : {K : Type 0} → (K → List ℕ) → Bool → List (K × Option Received)
    → List (Thing × Received)
reports_by bytes is_item es = reports_in is_item (plain_entries bytes (λ x. x) es)
