-- Names of receivers as a book keeps them. No public clause cites this module.
use Rattle.std.specs.Prelude.{ℕ, List, [], ◌∷◌}
use Rattle.aprs_rows.specs.declared.joining.kept_names.KeptNames.{KeptNames}
use Rattle.aprs_rows.specs.declared.joining.kept_names.KeptNames.TheVariants.{One, Many}

module _ {A : Type 0} where
  -- The names that are kept.
  abbrev pub names_kept : KeptNames A → List (List ℕ)
  names_kept (One alloc name) = name ∷ []
  names_kept (Many names) = names.items
