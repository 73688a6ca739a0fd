-- What this crate's proofs cite of the crates below.
pub use Rattle.clap.proofs.WalkLemmas.{first_value-rows, raw_values-rows}
pub use Rattle.clap.specs.Kinds.{HasKind}
pub use Rattle.clap.specs.Simple.{app_of_fields}
pub use Rattle.clap.specs.Words.{App, IsUnsignedIn, Row, Text, app_of, fault_of, found_of, is_simple_and_free, kind_of, matches_of, new_app, rows_of, subcommand_rows_of, takes, with_rule, with_subcommand}
pub use Rattle.std.proofs.lemmas.Bool.{and_parts}
pub use Rattle.std.proofs.Common.{Bool, Bor, List, None, Option, Some, [], ap, ap₂, arith, codes, false, inl, inr, map, option_map, refl, rules, subst, sym, take, true, unwrap_or, ℕ, ◌<◌, ◌^◌, ◌∙◌, ◌≡◌}
pub use Rattle.std.proofs.lemmas.Result.{IfOk-weaker, err_from_is_err_and}
