-- Lines at places of bytes. No public clause cites this module.
use Rattle.std.specs.Prelude.{◌≡◌, ◌+◌, ℕ, Bool, false, List, ◌∷◌, ◌++◌, length, drop, Option}
use Rattle.aprs_ax25.specs.Callsign.{Call}
use Rattle.aprs_io.specs.Cut.{Lacks}
use Rattle.aprs_log.specs.declared.moment_form.MomentForm.{MomentForm}
use Rattle.aprs_transmissions.specs.Row.{Row, row_key}
use Rattle.aprs_bookfile.specs.Text.{IsBookRow, end_line, row_line}
use Rattle.aprs_fold.specs.Range.{is_until}

-- The line stands at this place of the bytes, with an LF after it.
pub record IsLineAt (bytes : List ℕ) (at : ℕ) (line : List ℕ) : Type 0 where
  pub after : List ℕ
  pub is : drop at bytes ≡ line ++ 10 ∷ after
  pub lacks : Lacks 10 line

-- The line stands at this place, and `next` is the place after its LF.
abbrev pub ReadsLine : List ℕ → ℕ → List ℕ → ℕ → Type 0
ReadsLine bytes at line next = IsLineAt bytes at line × (next ≡ at + length line + 1)

-- What `is_before` says of a line. For a row's line: whether the row's source comes before `end`,
-- or true where there is no `end`. For a last line: false.
pub record IsJudged (end : Option Call) (line : List ℕ) (is_before : Bool) : Type 0 where
  pub row : (form : MomentForm) (x : Row) → IsBookRow form x → line ≡ row_line form x
      → is_before ≡ is_until end (row_key x).source
  pub last : (n : ℕ) → line ≡ end_line n → is_before ≡ false
