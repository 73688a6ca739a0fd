-- What this crate's proofs cite of the crates below.
pub use Rattle.aprs_convert.proofs.Gots.{got_so}
pub use Rattle.aprs_io.proofs.Sends.{Calls-then}
pub use Rattle.aprs_transmissions.proofs.Books.{book_carries}
pub use Rattle.aprs_transmissions.proofs.Unions.{around, merged}
pub use Rattle.aprs_transmissions.specs.Book.{BookOf}
pub use Rattle.aprs_transmissions.specs.BookValue.{BookValue}
pub use Rattle.aprs_transmissions.specs.Gap.{millis_of}
pub use Rattle.aprs_transmissions.specs.Row.{Row}
pub use Rattle.aprs_transmissions.specs.declared.merge_fault.MergeFault.{MergeFault}
pub use Rattle.std.proofs.Common.{Err, List, Ok, [], arith, inl, inr, length, refl, subst, sym, ℕ, ◌++◌, ◌∙◌, ◌∷◌, ◌≡◌}
pub use Rattle.std.proofs.lemmas.Result.{err_from_is_err_and}
