-- Lemmas on an input's book that is merged into another.
use Rattle.aprs_tool.proofs.Common.{◌≡◌, ℕ, List, [], ◌∷◌, ◌++◌, length, Ok, Err, inr, sym, subst, arith, BookOf, BookValue, millis_of, Row, book_carries, around, merged, MergeFault}
use Rattle.aprs_book.specs.Changes.{MergesInto}
use Rattle.aprs_transmissions.specs.declared.merge_fault.MergeFault.TheVariants as fault
use Rattle.aprs_log.specs.declared.InputEnd.{InputEnd}
use Rattle.aprs_runs.specs.InputBook.{ReadsInput, TakesInput}
use Rattle.aprs_runs.specs.InputRows.{RefusesGaps}
use Rattle.aprs_runs.specs.Inputs.{GivesSet}
use Rattle.aprs_runs.specs.Refused.{fault_of_merge}
use Rattle.aprs_runs.proofs.Into.{file_of}

-- the book of no receptions becomes the other
pub merges_empty : (gap : ℕ) (old rows : List Row) → length old ≡ 0 → MergesInto gap old rows rows
merges_empty gap [] rows e = λ S T none book. book_carries gap (T ++ S) (S ++ T) rows (around T S)
    (merged gap T S rows [] book none)
merges_empty gap (x ∷ old) rows e = absurd (omega (arith, e))

module _ (gap : ℕ) (t : List ℕ) (c : InputEnd) (b : BookValue) (h : ReadsInput gap (Ok b) t c) where
  -- it was merged into the rows
  pub merged_in : (old new : List Row) → gap ≡ b.gap → MergesInto (millis_of gap) old b.rows new
      → TakesInput gap (Ok tt) old new t c
  merged_in old new same merges = (
    (h.1.0, subst (λ g. GivesSet g t c h.1.0) (sym same) h.1.1),
    λ S T gives book. merges S T book (subst (λ g. BookOf (millis_of g) T b.rows) (sym same)
        (h.2 T (subst (λ g. GivesSet g t c T) same gives))),
  )

  -- or that was refused
  pub not_merged_in : (e : MergeFault) (old new : List Row) → RefusesGaps e gap b.gap
      → TakesInput gap (Err (fault_of_merge e)) old new t c
  not_merged_in fault.OtherGap old new differs =
      let other : b.gap ≡ gap → ⊥ = λ same. differs (sym same) in
      (b.gap, h.1.0, other, file_of gap b.gap t c h.1.0 other h.0 h.1.1)
  not_merged_in fault.Memory old new same =
      inr (h.1.0, subst (λ g. GivesSet g t c h.1.0) (sym same) h.1.1)
