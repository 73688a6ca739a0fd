-- What this crate's proofs cite of the crates below.
pub use Rattle.aprs_report.proofs.Steps.{after_some, chunk_found, chunk_takes, guarded_some, if_either, some_is}
pub use Rattle.std.proofs.Common.{Bool, List, None, Option, Some, [], ap, arith, cond, eqb, false, leb, length, ltb, refl, rules, subst, suc, sym, true, zero, ℕ, ℤ, ◌*◌, ◌++◌, ◌+◌, ◌-◌, ◌∙◌, ◌∷◌, ◌≡◌, ◌≤◌}
pub use Rattle.std.proofs.lemmas.Bool.{and_parts, eqb-true, le-leb, leb-true, lt-ltb, ltb-true}
pub use Rattle.std.specs.List.{slice_index}
pub use Rattle.std.specs.Prelude.{IfSome, not, ◌%◌, ◌||◌}
