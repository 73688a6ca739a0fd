-- What this crate's proofs cite of the crates below.
pub use Rattle.aprs_io.proofs.Outlets.{Puts-fails, Puts-is, Puts-then, Sends-put, Sends-unput}
pub use Rattle.std.proofs.Common.{List, None, Option, Some, [], ap, append_assoc, arith, get_or, length, refl, rules, subst, sym, take, ℕ, ◌+◌, ◌++◌, ◌<◌, ◌∙◌, ◌∷◌, ◌≡◌}
pub use Rattle.std.specs.Prelude.{string_bytes}
