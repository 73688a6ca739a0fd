-- What this crate's proofs cite of the crates below.
pub use Rattle.aprs_convert.specs.Got.{OfGot}
pub use Rattle.aprs_io.specs.Input.{most_input}
pub use Rattle.aprs_io.specs.declared.device.Counted.{Counted}
pub use Rattle.aprs_log.specs.declared.InputEnd.{InputEnd}
pub use Rattle.aprs_runs.specs.Merge.{IsTextOfBook}
pub use Rattle.aprs_runs.specs.declared.fault.RunFault.TheVariants.{Input, Memory, Write}
pub use Rattle.std.proofs.Common.{Err, List, None, Ok, Option, Result, Some, [], ap, arith, drop, get_or, length, map, subst, sym, zero, ℕ, ◌++◌, ◌+◌, ◌-◌, ◌<◌, ◌∙◌, ◌∷◌, ◌≡◌, ◌≤◌}
pub use Rattle.std.specs.List.{fold, sum}
