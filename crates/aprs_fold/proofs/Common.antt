-- What this crate's proofs cite of the crates below.
pub use Rattle.aprs_io.proofs.Outlets.{Puts-fails, Puts-is, Puts-none, Puts-then, Sends-put, Sends-unput}
pub use Rattle.aprs_io.proofs.Sends.{Calls-none, Calls-then}
pub use Rattle.aprs_io.specs.Device.{Calls, End, Fault, Going, Last, Sends}
pub use Rattle.aprs_io.specs.Outlet.{Puts}
pub use Rattle.aprs_io.specs.declared.device.Counted.{Counted}
pub use Rattle.aprs_transmissions.proofs.Books.{row_total}
pub use Rattle.aprs_transmissions.proofs.Common.{upto}
pub use Rattle.aprs_transmissions.proofs.Lists.{in_either, in_left, in_right}
pub use Rattle.aprs_transmissions.proofs.Orders.{up_to_itself}
pub use Rattle.aprs_transmissions.specs.BookValue.{BookValue}
pub use Rattle.aprs_transmissions.specs.Gap.{IsGap, millis_of}
pub use Rattle.aprs_transmissions.specs.Lists.{Ordered, SameMembers, ◌∈◌}
pub use Rattle.aprs_transmissions.specs.Order.{IsBelow, IsUpTo}
pub use Rattle.aprs_transmissions.specs.Row.{Row, row_cmp}
pub use Rattle.aprs_transmissions.specs.Sound.{IsSoundRow, AreSoundRows, Sound}
pub use Rattle.std.proofs.Common.{Bool, Err, IfErr, IfOk, IfSome, IsErr, List, None, Ok, Option, Result, Some, [], ap, append-nil, append_assoc, arith, cond, drop, false, get_or, inl, inr, length, length-append, map, refl, rules, set, subst, suc, sym, take, true, zero, ℕ, ◌++◌, ◌+◌, ◌-◌, ◌<◌, ◌∙◌, ◌∷◌, ◌≡◌, ◌≤◌, ◌⊎◌}
pub use Rattle.std.proofs.Math.Numerals.{add-one}
pub use Rattle.std.proofs.lemmas.Bool.{cases_lt}
pub use Rattle.std.proofs.lemmas.Option.{slice_get-get_or}
pub use Rattle.std.proofs.lemmas.List.Concat.{flat_map-append}
pub use Rattle.std.proofs.lemmas.Result.{IfErr-weaker, IfOk-weaker, err_from_is_err_and, on_ok_weaker}
pub use Rattle.std.specs.List.{flat_map, last_or, sum_by}
pub use Rattle.std.specs.Prelude.{All, IfNone, OnOk, slice_get, ◌≢◌}
