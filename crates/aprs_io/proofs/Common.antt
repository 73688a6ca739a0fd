-- What this crate's proofs cite of the crates below.
pub use Rattle.hex.proofs.Pairs.{cons_byte, decode_done, decode_pairs-ok_pair, decode_start, drop-pair, encode_done, encode_step, prepend, prepend-cons_byte}
pub use Rattle.hex.specs.Hex.{IsBytes, decode_of, decode_pairs, digit_or_error, encode_lower, hex_digit_value, lower_digits, pair_value, value_at}
pub use Rattle.std.proofs.Common.{Bool, Err, IfSome, List, None, Ok, OnErr, Option, Result, Some, [], ap, append-nil, append_assoc, arith, cond, drop, eq-eqb, false, get_or, if◌then◌else◌, inl, inr, length, length-append, map, nat_lt, refl, rules, slice_get, slice_index, slice_set, subst, suc, sym, take, take-append-drop, true, unwrap_or, zero, ℕ, ◌%◌, ◌&&◌, ◌*◌, ◌++◌, ◌+◌, ◌-◌, ◌/◌, ◌<◌, ◌==◌, ◌∙◌, ◌∷◌, ◌≡◌, ◌≢◌, ◌≤◌, ◌⊎◌}
pub use Rattle.std.proofs.KnownBytes.{Appends-nil, Appends-trans, Keeps-refl}
pub use Rattle.std.proofs.lemmas.Bool.{OnTrue_at, OnTrue_from, and_parts, cases_lt, false_from_ne_true, lt-ltb}
pub use Rattle.std.proofs.lemmas.List.{drop_more, flat_map_more, get_or-append_right, get_or-drop, get_or-set_other, get_or-set_same, get_or-take, get_or_append_left, length-drop, length-set, length-take-le, set-get_or, take_more, take_rest}
pub use Rattle.std.proofs.lemmas.Slice.{drop-put_mid}
pub use Rattle.std.specs.Int.Bits.{bit_or}
pub use Rattle.std.specs.Io.KnownBytes.{Appends, Keeps}
pub use Rattle.std.specs.List.{AllByRecursion, after_first, before_first, flat_map, list_all, position_or_len}
pub use Rattle.std.specs.Result.{IsErr, IsOk}
