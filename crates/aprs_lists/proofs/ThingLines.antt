-- The table of objects and items, of a walk over them, and the fields of its lines.
use Rattle.aprs_lists.proofs.Common.{◌≡◌, ◌∷◌, ◌++◌, [], ℕ, Bool, List, ap, flat_map, map, refl, BookValue, Call, Received, call_text, key_of, millis_of, moment_text, shown_text}
use Rattle.aprs_summary.specs.Names.{ReportsNamed, Thing, shown_report}
use Rattle.aprs_summary.specs.declared.lists.named.Named.{Named}
use Rattle.aprs_lists.specs.Lines.{tabbed_line}
use Rattle.aprs_lists.specs.Things.{IsThingsTable, named_fields, report_table_line, thing_columns, thing_table_line}
use Rattle.aprs_report.specs.Object.{live_text}

-- an object or an item that shows this report
abbrev pub listed : Thing × Received → Named
listed r = record {
  is_item = r.0.is_item;
  name = record { ref_ptr = (0, 0); now = r.0.name };
  heard = r.1;
}

pub all_shown : (reports : List (Thing × Received)) → map shown_report (map listed reports) ≡ reports
all_shown [] = refl
all_shown (r ∷ reports) = ap (λ l. r ∷ l) (all_shown reports)

same_lines : (reports : List (Thing × Received))
    → flat_map report_table_line reports ≡ flat_map thing_table_line (map listed reports)
same_lines [] = refl
same_lines (r ∷ reports) = ap (λ l. report_table_line r ++ l) (same_lines reports)

pub is_table : (b : BookValue) (reports : List (Thing × Received))
    → ((xs : List Named) → map shown_report xs ≡ reports → ReportsNamed (millis_of b.gap) b.rows xs)
    → IsThingsTable b (tabbed_line thing_columns ++ flat_map report_table_line reports)
is_table b reports n = record {
  things = map listed reports;
  are_things = n (map listed reports) (all_shown reports);
  text_is = ap (λ l. tabbed_line thing_columns ++ l) (same_lines reports);
}

pub named_fields_of : (name live_word who : List ℕ) (live : Bool) (heard shown_as : Received)
    (from : Call) → heard ≡ shown_as → live_word ≡ live_text live → who ≡ heard.receiver
    → from ≡ (key_of heard.frame).source
    → shown_text name ∷ live_word ∷ moment_text heard.moment ∷ who ∷ call_text from ∷ []
    ≡ named_fields name live shown_as
named_fields_of name live_word who live heard shown_as from e l w f = rw (l, w, f, e) refl
