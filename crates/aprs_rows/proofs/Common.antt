-- What this crate's proofs cite of the crates below.
pub use Rattle.aprs_ax25.proofs.Spellings.{FrameOf-IsSound}
pub use Rattle.aprs_ax25.specs.Frame.{FrameOf, Parts, address_field}
pub use Rattle.aprs_ax25.specs.FrameFault.{call_of, field_len, frame_fault, frame_or_fault, parts_of, unless_fault}
pub use Rattle.aprs_transmissions.proofs.Choices.{add_listed, add_ordered, in_union, same_members, union_ordered}
pub use Rattle.aprs_transmissions.proofs.Coalescing.{single_is_sound}
pub use Rattle.aprs_transmissions.proofs.Joins.{is_greater_of, some_millis}
pub use Rattle.aprs_transmissions.proofs.Lists.{from_map, in_either, in_left, in_right}
pub use Rattle.aprs_transmissions.proofs.Merges.{merged_is_union, merged_is_united, merged_ordered}
pub use Rattle.aprs_transmissions.proofs.Orders.{bytes_exact, bytes_total, key_exact, key_total, ordering_then_assoc, same_greatest, up_to_itself}
pub use Rattle.aprs_transmissions.proofs.Places.{in_place, place_of}
pub use Rattle.aprs_transmissions.specs.BookValue.{BookValue}
pub use Rattle.aprs_transmissions.specs.Coalescing.{AreInOrder}
pub use Rattle.aprs_transmissions.specs.Gap.{IsGap, millis_of}
pub use Rattle.aprs_transmissions.specs.JoinRow.{add, choose, combine, compare_near, greater, single, union}
pub use Rattle.aprs_transmissions.specs.Joining.{AreAllAlike, FoldsTo, IsGreaterOf, IsUnited}
pub use Rattle.aprs_transmissions.specs.Key.{Key}
pub use Rattle.aprs_transmissions.specs.Lists.{Ordered, SameMembers, ◌∈◌}
pub use Rattle.aprs_transmissions.specs.Merged.{ascending_union}
pub use Rattle.aprs_transmissions.specs.Order.{IsBelow, IsUpTo}
pub use Rattle.aprs_transmissions.specs.Row.{Row, last_moment, row_cmp, row_key}
pub use Rattle.aprs_transmissions.specs.Sound.{FollowsFar, IsFar, IsNext, IsSoundRow, Sound}
pub use Rattle.aprs_transmissions.specs.declared.row_cause.RowCause.{RowCause}
pub use Rattle.aprs_log.specs.Receiver.{IsName, is_name_byte}
pub use Rattle.aprs_log.specs.Reception.{Received, bytes_cmp}
pub use Rattle.std.proofs.Common.{Bool, Bor, Err, IfNone, IfOk, List, MatchResult, None, Ok, OnErr, OnOk, Option, Result, Some, [], ap, append_assoc, arith, cond, drop, false, get_or, inl, inr, leb, length, ltb, map, min, not, refl, replicate, rules, slice_index, subst, suc, sym, take, true, vec_capacity, vec_len, zero, ℕ, ◌%◌, ◌&&◌, ◌*◌, ◌++◌, ◌+◌, ◌-◌, ◌/◌, ◌<◌, ◌==◌, ◌||◌, ◌↔◌, ◌∙◌, ◌∷◌, ◌≡◌, ◌≤◌, ◌⊎◌}
pub use Rattle.std.proofs.Math.Seq.{drop-append_seam, take-append_seam}
pub use Rattle.std.proofs.lemmas.Bool.{and_parts, false_from_ne_true}
pub use Rattle.std.proofs.lemmas.Bool.Decides.{nat_tests}
pub use Rattle.std.proofs.lemmas.Cmp.{nat_cmp_total, on_total, then_total, tied_itself}
pub use Rattle.std.proofs.lemmas.List.{drop-drop, drop_all, drop_at, length-append, length-drop, length-map, length-replicate, length-take, take-take, take_all, take_at, take_more, take_rest}
pub use Rattle.std.proofs.lemmas.List.Elements.{All-cons, All-from_recursion, All-nil, All-push, All-tail, recursion_from_All}
pub use Rattle.std.proofs.lemmas.List.Sorted.{All-permutation, IsPermutation-map, IsPermutation-sym, ranks_by, sorted_far}
pub use Rattle.std.proofs.lemmas.List.Splits.{join_with_byte-slice_split, length-slice_split, slice_split_at, slice_split_none}
pub use Rattle.std.specs.Cmp.{IsStrictWeakOrder, IsTotalOrder}
pub use Rattle.std.specs.Int.{from_be_bytes, w64}
pub use Rattle.std.specs.List.{AllByRecursion, HoldsAt, flat_map, insert, join_with_byte, last_or, list_all, list_any, onto_first, slice_get}
pub use Rattle.std.specs.List.Sorted.{IsBinarySearchResult, IsNonDecreasingBy, IsPartitionPoint, IsPermutation, IsSearchInRange, IsSorted, IsSortedBy}
pub use Rattle.std.specs.Option.{MatchOption, option_copied, option_map_or}
pub use Rattle.std.specs.Ordering.{is_eq, is_gt, is_lt, is_ne, nat_cmp, ordering_index, ordering_reverse, ordering_then}
pub use Rattle.std.specs.Prelude.{All, IsTrue, if◌then◌else◌, is_err}
pub use Rattle.std.specs.Result.{IsOk, IsOkUnless}
pub use Rattle.std.specs.declared.cmp.Ordering.{Ordering}
pub use Rattle.std.specs.declared.cmp.Ordering.TheVariants.{Equal, Greater, Less}
