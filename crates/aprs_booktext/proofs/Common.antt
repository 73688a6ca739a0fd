-- What this crate's proofs cite of the crates below.
pub use Rattle.aprs_io.proofs.Outlets.{Puts-broken, Puts-fails, Puts-is, Puts-more, Puts-then, Sends-put, Sends-unput}
pub use Rattle.aprs_io.specs.Device.{Sends}
pub use Rattle.aprs_io.specs.Outlet.{Puts}
pub use Rattle.aprs_transmissions.proofs.Soundness.{witnessed}
pub use Rattle.aprs_transmissions.specs.BookValue.{BookValue, IsSoundBook}
pub use Rattle.aprs_transmissions.specs.Gap.{millis_of}
pub use Rattle.aprs_transmissions.specs.Row.{Row}
pub use Rattle.aprs_transmissions.specs.Witnesses.{witnesses}
pub use Rattle.aprs_log.specs.Receiver.{IsName}
pub use Rattle.aprs_rows.proofs.JoinedNames.{joined_first, more_names}
pub use Rattle.std.proofs.Common.{List, Ok, [], ap, arith, refl, rules, subst, sym, take, ℕ, ◌<◌, ◌^◌, ◌∙◌, ◌∷◌, ◌≡◌}
pub use Rattle.std.proofs.lemmas.Result.{IfOk-weaker, err_from_is_err_and}
pub use Rattle.std.specs.List.{flat_map}
pub use Rattle.std.specs.Prelude.{All}
