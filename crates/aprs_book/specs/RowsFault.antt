-- Why rows are not those of a book.
use Rattle.std.specs.Prelude.{◌≡◌, ◌≢◌, ℕ, ◌<◌, ◌⊎◌, List, take, slice_get, None, Some}
use Rattle.aprs_transmissions.specs.Row.{Row}
use Rattle.aprs_transmissions.specs.Sound.{Sound}
use Rattle.aprs_rows.specs.Refusal.{refusal}
use Rattle.aprs_transmissions.specs.declared.row_cause.RowCause.{RowCause}
use Rattle.aprs_transmissions.specs.declared.row_cause.RowCause.TheVariants.{Memory}
use Rattle.aprs_book.specs.declared.from_parts.RowsFault.{RowsFault}

-- x isn't added after the rows: the cause refuses it, or nothing does and an allocation failed.
abbrev pub IsRefusedFor : ℕ → List Row → Row → RowCause → Type 0
IsRefusedFor gap rows x cause =
    (refusal gap rows x ≡ Some cause) ⊎ ((cause ≡ Memory) × (refusal gap rows x ≡ None))

-- The place is that of a row. Those before it are sound, and after them it isn't added, for the
-- fault's cause.
pub record IsRowsFault (gap : ℕ) (rows : List Row) (fault : RowsFault) : Type 0 where
  pub row : Row
  pub at_place : slice_get rows fault.place ≡ Some row
  pub sound : Sound gap (take fault.place rows)
  pub refused : IsRefusedFor gap (take fault.place rows) row fault.cause

-- Rows that aren't sound have a fault that isn't of memory.
abbrev pub AreSoundOrFaulty : ℕ → Type 0
AreSoundOrFaulty gap = (rows : List Row)
    → Sound gap rows ⊎ ((f : RowsFault) × IsRowsFault gap rows f × (f.cause ≢ Memory))

-- Sound rows have no fault that isn't of memory.
abbrev pub SoundRowsAreFaultless : ℕ → Type 0
SoundRowsAreFaultless gap = (rows : List Row) (f : RowsFault)
    → Sound gap rows → IsRowsFault gap rows f → f.cause ≡ Memory

-- Rows have at most one fault that isn't of memory. Any other is of memory, at a row before that
-- one.
abbrev pub HaveOneRowsFault : ℕ → Type 0
HaveOneRowsFault gap = (rows : List Row) (f g : RowsFault)
    → IsRowsFault gap rows f → f.cause ≢ Memory → IsRowsFault gap rows g
    → (g ≡ f) ⊎ ((g.cause ≡ Memory) × (g.place < f.place))
