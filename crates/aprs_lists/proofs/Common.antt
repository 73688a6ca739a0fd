-- What this crate's proofs cite of the crates below.
pub use Rattle.aprs_ax25.specs.Callsign.{Call, call_text, call_cmp}
pub use Rattle.aprs_io.proofs.Outlets.{Puts-broken, Puts-fails, Puts-is, Puts-more, Puts-none, Puts-then, Sends-put, Sends-unput}
pub use Rattle.aprs_io.proofs.SoFar.{PutSoFar, PutSoFar-all, PutSoFar-broken, PutSoFar-more, PutSoFar-none}
pub use Rattle.aprs_io.specs.Device.{Sends}
pub use Rattle.aprs_io.specs.Outlet.{Puts}
pub use Rattle.aprs_io.specs.Shown.{shown_text}
pub use Rattle.aprs_transmissions.proofs.Known.{known_once}
pub use Rattle.aprs_transmissions.proofs.Lists.{each_of, from_map, in_map}
pub use Rattle.aprs_transmissions.proofs.Orders.{bytes_total, call_total, not_both, bytes_exact, call_exact, same_greatest, up_to_itself}
pub use Rattle.aprs_transmissions.proofs.Places.{in_place, place_of}
pub use Rattle.aprs_transmissions.specs.Book.{BookOf}
pub use Rattle.aprs_transmissions.specs.BookValue.{BookValue}
pub use Rattle.aprs_transmissions.specs.Gap.{millis_of}
pub use Rattle.aprs_transmissions.specs.Key.{Key, key_of}
pub use Rattle.aprs_transmissions.specs.Lists.{Ordered, SameMembers, ◌∈◌}
pub use Rattle.aprs_transmissions.specs.Order.{IsBelow, IsUpTo}
pub use Rattle.aprs_transmissions.specs.Row.{Row}
pub use Rattle.aprs_log.specs.Moment.{moment_text}
pub use Rattle.aprs_log.specs.Reception.{Received, bytes_cmp}
pub use Rattle.aprs_report.specs.Reading.{Value, view}
pub use Rattle.aprs_report.specs.declared.report.Report.{Report}
pub use Rattle.aprs_summary.specs.Reports.{report_of}
pub use Rattle.aprs_table.proofs.Chains.{◌before◌, cells_put, refused}
pub use Rattle.aprs_table.proofs.Lines.{tabbed_cells}
pub use Rattle.aprs_table.specs.Cells.{cell_text, tabbed_cell}
pub use Rattle.aprs_table.specs.Table.{after_tab}
pub use Rattle.aprs_table.specs.declared.cell.Cell.{Cell}
pub use Rattle.std.proofs.Common.{Bool, Err, List, None, Ok, Option, Result, Some, [], ap, append-nil, append_assoc, ap₂, arith, codes, inl, inr, length, map, refl, rules, subst, sym, take, ℕ, ◌++◌, ◌∙◌, ◌∷◌, ◌≡◌, Bor, drop, eqb, eqb-true, false, get_or, if◌then◌else◌, leb, leb-true, ltb, max, suc, true, zero, ◌&&◌, ◌+◌, ◌<◌, ◌≤◌, ◌⊎◌}
pub use Rattle.std.proofs.lemmas.Bool.{and_from, and_parts, cases_lt, le-leb, lt-ltb, ltb-true}
pub use Rattle.std.proofs.lemmas.Cmp.{on_total, then_total, tied_itself, upto}
pub use Rattle.std.proofs.lemmas.List.Concat.{flat_map-append}
pub use Rattle.std.proofs.lemmas.List.Elements.{All-from_recursion, recursion_from_All}
pub use Rattle.std.proofs.lemmas.List.Sorted.{All-permutation, IsPermutation-sym, IsPartitionPoint-from_clause, ranks_by, sorted_far}
pub use Rattle.std.proofs.lemmas.Map.Lookups.{CmpEqualImpliesEq, exact_pairs, exact_unsigned}
pub use Rattle.std.specs.Cmp.{IsTotalOrder, bool_cmp_total, nat_cmp_total, ranks}
pub use Rattle.std.specs.Cmp.Lexicographic.{options_total}
pub use Rattle.std.specs.List.{flat_map, join_with_byte, AllByRecursion}
pub use Rattle.std.specs.List.Sorted.{IsPermutation, IsPartitionPoint, IsPartitionedBy, IsSortedBy}
pub use Rattle.std.specs.Option.{option_cmp, option_copied, option_map}
pub use Rattle.std.specs.Ordering.{MatchOrdering, bool_cmp, is_eq, is_gt, is_lt, nat_cmp, on, ordering_reverse, ordering_then, then_cmp}
pub use Rattle.std.specs.declared.cmp.Ordering.{Ordering}
pub use Rattle.std.specs.declared.cmp.Ordering.TheVariants.{Equal, Greater, Less}
