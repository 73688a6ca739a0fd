-- The rows of a range of sources are a book's, where all rows are.
use Rattle.aprs_fold.proofs.Common.{◌≡◌, ◌∙◌, ℕ, Bool, true, false, cond, List, [], ◌∷◌, ◌++◌, inl, inr, refl, ap, Row, row_cmp, IsBelow, Ordered, Sound, ◌∈◌}
use Rattle.std.specs.List.{filter}
use Rattle.std.proofs.lemmas.List.Elements.{filter-append}
use Rattle.aprs_transmissions.specs.Row.{row_key}
use Rattle.aprs_transmissions.specs.Sound.{IsFar}
use Rattle.aprs_fold.specs.Range.{all_sources, is_within, rows_of_sources, AllAreWithin}
use Rattle.aprs_fold.specs.declared.range.SourceRange.{SourceRange}

module _ {X : Type 0} (p : X → Bool) where
  kept_in : (y : X) (xs : List X) → y ∈ filter p xs → y ∈ xs
  kept_in y [] h = h
  kept_in y (x ∷ xs) h = by (p x) (kept_in y xs) h where
    by : (b : Bool) → (y ∈ filter p xs → y ∈ xs)
        → y ∈ cond b (x ∷ filter p xs) (filter p xs) → y ∈ (x ∷ xs)
    by true more h = elim h [ inl e ↦ inl e | inr k ↦ inr (more k) ]
    by false more h = inr (more h)

  kept_ordered : (Q : X → X → Type 0) (xs : List X) → Ordered Q xs → Ordered Q (filter p xs)
  kept_ordered Q [] h = tt
  kept_ordered Q (x ∷ xs) h = by (p x) (kept_ordered Q xs h.1) where
    by : (b : Bool) → Ordered Q (filter p xs)
        → Ordered Q (cond b (x ∷ filter p xs) (filter p xs))
    by true more = ((λ y k. h.0 y (kept_in y xs k)), more)
    by false more = more

  kept_all : (xs : List X) → ((x : X) → p x ≡ true) → filter p xs ≡ xs
  kept_all [] all = refl
  kept_all (x ∷ xs) all =
      ap (λ b. cond b (x ∷ filter p xs) (filter p xs)) (all x) ∙ ap (λ l. x ∷ l) (kept_all xs all)

-- the test of a row
abbrev pub is_row_within : SourceRange → Row → Bool
is_row_within range x = is_within range (row_key x).source

pub in_within : (range : SourceRange) (x : Row) (rows : List Row) → x ∈ rows_of_sources range rows
    → x ∈ rows
in_within range x rows h = kept_in (is_row_within range) x rows h

pub sound_within : (gap : ℕ) (range : SourceRange) (rows : List Row) → Sound gap rows
    → Sound gap (rows_of_sources range rows)
sound_within gap range rows h = record {
  ascending = kept_ordered (is_row_within range) (IsBelow row_cmp) rows h.ascending;
  apart = kept_ordered (is_row_within range) (IsFar gap) rows h.apart;
  each = λ x k. h.each x (kept_in (is_row_within range) x rows k);
}

pub within_both : (range : SourceRange) (rows more : List Row)
    → rows_of_sources range (rows ++ more)
    ≡ rows_of_sources range rows ++ rows_of_sources range more
within_both range rows more = filter-append (is_row_within range) rows more

-- all rows are within the range of all sources
pub all_within : AllAreWithin
all_within rows = kept_all (is_row_within all_sources) rows (λ x. refl)
