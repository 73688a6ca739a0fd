-- What this crate's proofs cite of the crates below.
pub use Rattle.aprs_ax25.specs.Callsign.{call_cmp}
pub use Rattle.aprs_transmissions.proofs.Books.{one_book}
pub use Rattle.aprs_transmissions.proofs.Inserts.{fits_by_test, inserted_is_book, inserted_is_sound}
pub use Rattle.aprs_transmissions.proofs.Joins.{gap_laws, one_value, some_millis}
pub use Rattle.aprs_transmissions.proofs.Known.{plain_known}
pub use Rattle.aprs_transmissions.proofs.Lists.{in_right, ordered_weaker}
pub use Rattle.aprs_transmissions.proofs.Orders.{bytes_exact, key_total}
pub use Rattle.aprs_transmissions.proofs.Pushes.{IsSound, empty_or_last, one_relation, sound_prefix}
pub use Rattle.aprs_transmissions.proofs.Rows.{IsBefore, before_trans, place_means, the_greater}
pub use Rattle.aprs_transmissions.proofs.RunRows.{book_of_nothing, union_is_joined}
pub use Rattle.aprs_transmissions.proofs.Soundness.{sound, witnessed}
pub use Rattle.aprs_transmissions.proofs.Together.{together}
pub use Rattle.aprs_transmissions.proofs.Views.{joined_by_merge}
pub use Rattle.aprs_transmissions.proofs.Widening.{keeps_under_own_gap, widens_book, widens_witnesses}
pub use Rattle.aprs_transmissions.specs.Best.{known_after, known_of}
pub use Rattle.aprs_transmissions.specs.Book.{BookOf}
pub use Rattle.aprs_transmissions.specs.BookValue.{AreJoined, BookValue, HaveOneGap, Holds, IsSoundBook, widened_to}
pub use Rattle.aprs_transmissions.specs.Coalescing.{AreInOrder}
pub use Rattle.aprs_transmissions.specs.Gap.{millis_of}
pub use Rattle.aprs_transmissions.specs.Inserted.{FitsInPlace, bridge_row, compare_near_to, grow_row, has_place_for, insert_heard, is_listed, is_near_first}
pub use Rattle.aprs_transmissions.specs.JoinRow.{IsNear, combine, merge, single}
pub use Rattle.aprs_transmissions.specs.Joining.{Joined}
pub use Rattle.aprs_transmissions.specs.Key.{key_cmp}
pub use Rattle.aprs_transmissions.specs.Lists.{Ordered, ◌∈◌}
pub use Rattle.aprs_transmissions.specs.Order.{IsBelow, IsUpTo}
pub use Rattle.aprs_transmissions.specs.Row.{Row, last_moment, row_cmp, row_key}
pub use Rattle.aprs_transmissions.specs.Sound.{AreSoundRows, FollowsFar, IsFar, IsSoundRow, Sound}
pub use Rattle.aprs_transmissions.specs.Widening.{widened_rows}
pub use Rattle.aprs_transmissions.specs.Witnesses.{witnesses}
pub use Rattle.aprs_transmissions.specs.declared.row_cause.RowCause.{RowCause}
pub use Rattle.aprs_log.specs.Receiver.{IsName}
pub use Rattle.aprs_log.specs.Reception.{Received, bytes_cmp}
pub use Rattle.aprs_report.specs.Reader.{reading_of}
pub use Rattle.aprs_rows.proofs.Cases.{by_order}
pub use Rattle.aprs_rows.proofs.KeyPrefixes.{head_exact, head_greater, head_less, head_total}
pub use Rattle.aprs_rows.proofs.Refusals.{Answers, ascending_short, first_of, free_ascends, free_of_none, last_after, never_memory, next_of_free, none_exactly, of_last_got, pushes_exactly, refused_first}
pub use Rattle.aprs_rows.specs.KeyPrefix.{HasKeyPrefix}
pub use Rattle.aprs_rows.specs.KeyPrefixSteps.{head_cmp}
pub use Rattle.aprs_rows.specs.Refusal.{is_ascending, is_of_last, is_out_of_order, is_same_name, is_too_near, refusal}
pub use Rattle.aprs_rows.specs.declared.row.key_prefix.KeyPrefix.{KeyPrefix}
pub use Rattle.std.proofs.Common.{All, Bool, Bor, Err, IfOk, IfSome, IsOkUnless, IsTrue, List, MatchOption, None, Ok, OnErr, OnOk, Option, Result, Some, [], add-one, ap, append-nil, append_assoc, arith, drop, drop-cons, eqb-true, false, get_or, if◌then◌else◌, inl, inr, is_some, length, length-drop, ltb, map, min, not, refl, rules, slice_set, subst, suc, sym, take, take-append-drop, take-take, true, zero, ℕ, ◌&&◌, ◌++◌, ◌+◌, ◌-◌, ◌<◌, ◌==◌, ◌↔◌, ◌∙◌, ◌∷◌, ◌≡◌, ◌≢◌, ◌≤◌, ◌⊎◌}
pub use Rattle.std.proofs.Math.Bool.{and-false, and-true}
pub use Rattle.std.proofs.lemmas.Bool.{cases_lt}
pub use Rattle.std.proofs.lemmas.Bool.Decides.{nat_tests}
pub use Rattle.std.proofs.lemmas.List.{drop-set-lt, drop_all, get_or-set_other, get_or-set_same, length-set, map-append, set_split, take_more, take_more_set}
pub use Rattle.std.proofs.lemmas.Map.Keys.{sorted_head, sorted_tail}
pub use Rattle.std.specs.BTreeMap.{insert_entry, is_at}
pub use Rattle.std.specs.Cmp.Lexicographic.{bytes_decides, pointwise_decides}
pub use Rattle.std.specs.List.{AllByRecursion, flat_map, join_with_byte, last_or, list_any, remove, slice_get}
pub use Rattle.std.specs.List.Sorted.{IsPartitionPoint, IsPartitionedBy}
pub use Rattle.std.specs.Map.{keys_of, lookup, set_value, values_of}
pub use Rattle.std.specs.Option.{option_copied, option_map_or}
pub use Rattle.std.specs.Ordering.{MatchOrdering, is_eq, is_gt, is_lt, ordering_reverse, ordering_then}
pub use Rattle.std.specs.declared.cmp.Ordering.{Ordering}
pub use Rattle.std.specs.declared.cmp.Ordering.TheVariants.{Equal, Greater, Less}
