-- What this crate's proofs cite of the crates below.
pub use Rattle.aprs_ax25.specs.CallText.{SpellsCall}
pub use Rattle.aprs_ax25.specs.Callsign.{Call, call_cmp, call_text, ssid_text}
pub use Rattle.aprs_transmissions.proofs.Inserts.{inserted_is_book}
pub use Rattle.aprs_transmissions.proofs.Joins.{greatest_laws, is_greater_of}
pub use Rattle.aprs_transmissions.proofs.Known.{known_last, known_once, plain_known, rows_know, set_knows}
pub use Rattle.aprs_transmissions.proofs.Lists.{each_of, from_map, in_either, in_left, in_map, in_right}
pub use Rattle.aprs_transmissions.proofs.Orders.{bytes_exact, bytes_total, call_exact, call_total, heard_total, up_to_itself}
pub use Rattle.aprs_transmissions.proofs.Soundness.{witnessed}
pub use Rattle.aprs_transmissions.proofs.Views.{a_row, best_of_rows, none_of_rows}
pub use Rattle.aprs_transmissions.specs.Best.{IsBest, LastKnown, greater_known, known_after, known_of}
pub use Rattle.aprs_transmissions.specs.BestLaws.{Passes}
pub use Rattle.aprs_transmissions.specs.Book.{BookOf}
pub use Rattle.aprs_transmissions.specs.BookValue.{BookValue}
pub use Rattle.aprs_transmissions.specs.Examples.{n0call}
pub use Rattle.aprs_transmissions.specs.Gap.{millis_of}
pub use Rattle.aprs_transmissions.specs.Inserted.{FitsInPlace, insert_heard}
pub use Rattle.aprs_transmissions.specs.JoinRow.{greater}
pub use Rattle.aprs_transmissions.specs.Key.{Key}
pub use Rattle.aprs_transmissions.specs.Lists.{Ordered, ◌∈◌}
pub use Rattle.aprs_transmissions.specs.Order.{IsBelow, IsUpTo}
pub use Rattle.aprs_transmissions.specs.Row.{Row, last_moment, row_key}
pub use Rattle.aprs_transmissions.specs.Sound.{Sound}
pub use Rattle.aprs_log.specs.Reception.{Received, bytes_cmp, heard_cmp}
pub use Rattle.aprs_report.specs.Reader.{reading_of}
pub use Rattle.aprs_report.specs.Reading.{Reads, Value, ack, item, message, object, position, raw, rej, status}
pub use Rattle.aprs_rows.proofs.Cases.{by_order}
pub use Rattle.std.proofs.Common.{Bool, Bor, Err, IfOk, IsTrue, List, None, Ok, OnOk, Option, Result, Some, [], ap, append-nil, append_assoc, arith, codes, cond, drop, eqb, eqb-true, false, leb, get_or, if◌then◌else◌, inl, inr, is_ok, is_some, length, map, max, min, refl, rules, subst, suc, sym, take, true, zero, ℕ, ◌&&◌, ◌++◌, ◌+◌, ◌<◌, ◌↔◌, ◌∙◌, ◌∷◌, ◌≡◌, ◌≤◌, ◌⊎◌}
pub use Rattle.std.proofs.Math.Bool.{and-false, and-true}
pub use Rattle.std.proofs.lemmas.Bool.{and_from, and_left, and_parts, and_right, le-leb, leb-true}
pub use Rattle.std.proofs.lemmas.List.Folds.{list_all-append}
pub use Rattle.std.proofs.lemmas.Bool.{cases_lt}
pub use Rattle.std.proofs.lemmas.Cmp.{on_total, then_total, tied_itself, upto}
pub use Rattle.std.proofs.lemmas.List.{length-append, map-append}
pub use Rattle.std.proofs.lemmas.Map.Iter.{rest_all, rest_more}
pub use Rattle.std.proofs.lemmas.Map.Keys.{sorted_head, sorted_tail}
pub use Rattle.std.proofs.lemmas.Map.Lookups.{CmpEqualImpliesEq, exact_pairs}
pub use Rattle.std.specs.BTreeMap.{insert_entry, is_at}
pub use Rattle.std.specs.Cmp.{IsTotalOrder, bool_cmp_total}
pub use Rattle.std.specs.Cmp.Lexicographic.{options_total}
pub use Rattle.std.specs.List.{AllByRecursion, count_by, list_all}
pub use Rattle.std.specs.Map.{keys_of, lookup, set_value}
pub use Rattle.std.specs.Map.Iter.{deref_pair}
pub use Rattle.std.specs.Option.{IsSome, option_cmp, option_copied, option_map, option_map_or}
pub use Rattle.std.specs.Ordering.{bool_cmp, is_eq, ordering_reverse, ordering_then}
pub use Rattle.std.specs.declared.cmp.Ordering.{Ordering}
pub use Rattle.std.specs.declared.cmp.Ordering.TheVariants.{Equal, Greater, Less}
