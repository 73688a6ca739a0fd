-- Lemmas on the fields of a line, each after a space.
use Rattle.aprs_table.proofs.Common.{◌≡◌, ℕ, List, [], ◌∷◌, ◌++◌, map, refl, sym, ap, ap₂, ◌∙◌, flat_map, flat_map-append}
use Rattle.aprs_table.specs.FieldText.{field_text, spaced_field}
use Rattle.aprs_table.specs.SpacedLine.{after_space}
use Rattle.aprs_table.specs.declared.field.Field.{Field}

pub spaced_fields : (xs : List Field) → flat_map spaced_field xs
    ≡ flat_map after_space (map field_text xs)
spaced_fields [] = refl
spaced_fields (x ∷ xs) = ap (λ l. spaced_field x ++ l) (spaced_fields xs)

-- the start of a line, and of the fields that are put
pub start : (kind : List ℕ) (fields others : List Field)
    → kind ++ (flat_map spaced_field fields ++ flat_map spaced_field others)
    ≡ kind ++ flat_map after_space (map field_text fields ++ map field_text others)
start kind fields others =
    ap (λ l. kind ++ l) (ap₂ (λ l m. l ++ m) (spaced_fields fields) (spaced_fields others)
    ∙ sym (flat_map-append after_space (map field_text fields) (map field_text others)))
