-- What this crate's proofs cite of the crates below.
pub use Rattle.std.proofs.Common.{All, Bool, Err, List, None, Ok, Option, Some, [], ap, append-nil, append_assoc, arith, drop, false, filter, get_or, inl, inr, length, length-append, map, refl, replicate, rules, slice_index, subst, sym, take, take-append-drop, true, ℕ, ◌%◌, ◌++◌, ◌+◌, ◌-◌, ◌/◌, ◌<◌, ◌==◌, ◌∙◌, ◌∷◌, ◌≡◌, ◌≢◌, ◌≤◌, ◌⊎◌}
pub use Rattle.std.proofs.Math.Seq.{take-append_seam, take-length}
pub use Rattle.std.proofs.lemmas.Bool.{eq-eqb, eqb-false, eqb-true, false_from_ne_true, le-ltb, lt-ltb}
pub use Rattle.std.proofs.lemmas.Bool.Decides.{eqb_tells, nat_tests}
pub use Rattle.std.proofs.lemmas.List.{get_or-take, length-replicate, length-take-le, map-append}
pub use Rattle.std.proofs.lemmas.List.Elements.{All-append, All-cons, All-from_get_or, All-nil, All-take, All-weaker, filter-append, recursion_from_All}
pub use Rattle.std.proofs.lemmas.List.Splits.{length-slice_split, slice_split-cons_no, slice_split-cons_yes, slice_split_at, slice_split_none}
pub use Rattle.std.specs.List.{AllByRecursion, FoldsTo, flat_map, onto_first, slice_split}
pub use Rattle.std.specs.Option.{option_map}
