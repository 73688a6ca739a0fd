-- Which row is taken, once a line more was read.
use Rattle.aprs_bookfile.proofs.Common.{◌≡◌, ◌≢◌, ◌∙◌, ℕ, true, false, List, None, Result, Ok, Option, Err, refl, sym, ap, subst, Counted, Row}
use Rattle.std.specs.Prelude.{IfOk, MatchResult}
use Rattle.std.specs.List.{last_or}
use Rattle.aprs_bookfile.specs.Reader.{is_done}
use Rattle.aprs_bookfile.specs.RowReader.{is_row_between, list_of_row, MovesOn}
use Rattle.aprs_bookfile.specs.RowStream.{HoldsTo, TakesLast}
use Rattle.aprs_bookfile.specs.Text.{end_line}
use Rattle.aprs_bookfile.specs.declared.fault.BookCause.{BookCause}
use Rattle.aprs_bookfile.specs.declared.fault.BookCause.TheVariants as cause
use Rattle.aprs_bookfile.specs.declared.row_reader.Keeping.{Keeping}
use Rattle.aprs_bookfile.specs.declared.row_reader.Keeping.TheVariants.{Last}
use Rattle.aprs_bookfile.specs.declared.row_stream.RowStream.{RowStream}
use Rattle.aprs_bookfile.specs.declared.stage.Stage.{Stage}
use Rattle.aprs_bookfile.specs.declared.stage.Stage.TheVariants.{Header, Rows, Done}
use Rattle.aprs_bookfile.specs.declared.version.Version.{Version}
use Rattle.aprs_bookfile.proofs.KeptRows.{last_of_kept}

-- the first line is no row's
pub moves_header : (stage : Stage) (answer : Result Stage BookCause) (keeping : Keeping)
    (rows taken : List Row) → stage ≡ Header
    → IfOk answer (λ next. keeping ≡ Last
    → MovesOn (is_row_between stage next) next rows rows taken)
moves_header stage (Err why) keeping rows taken is = tt
moves_header stage (Ok next) keeping rows taken is = λ last.
    subst (λ (s : Stage). MovesOn (is_row_between s next) next rows rows taken) (sym is)
    (by_next next) where
      by_next : (next : Stage) → MovesOn (is_row_between Header next) next rows rows taken
      by_next Header = refl
      by_next (Rows v) = refl
      by_next (Done v) = refl

-- nor is the last line
pub moves_end : (v : Version) (answer : Result Stage BookCause) (count : ℕ) (line : List ℕ)
    (keeping : Keeping) (rows taken : List Row)
    → MatchResult answer (λ stage. (stage ≡ Done v) × (line ≡ end_line count))
    (λ why. (why ≡ cause.Ending) × (line ≢ end_line count))
    → IfOk answer (λ next. keeping ≡ Last
    → MovesOn (is_row_between (Rows v) next) next rows rows taken)
moves_end v (Err why) count line keeping rows taken h = tt
moves_end v (Ok next) count line keeping rows taken h = λ last.
    subst (λ (s : Stage). MovesOn (is_row_between (Rows v) s) s rows rows taken) (sym h.0) refl

-- ---- a stream

module _ {R A : Type 0} (remaining : R → Option (List ℕ)) (now : Counted R)
    (old new : RowStream A) where
  kept_last : (kept rows : List Row) (got : List ℕ) → kept ≡ old.reader.rows
      → old.reader.keeping ≡ Last → HoldsTo old rows got
      → list_of_row (last_or None kept) ≡ list_of_row (last_or None rows)
  kept_last kept rows got same last h =
      ap (λ (r : List Row). list_of_row (last_or None r)) (same ∙ h.2.kept)
      ∙ ap list_of_row (last_of_kept old.reader.keeping rows)

  -- a row was read
  pub taken_row : is_done new.reader.stage ≡ false
      → (old.reader.keeping ≡ Last → new.reader.taken ≡ old.reader.rows)
      → TakesLast remaining now old new
  taken_row going same = λ limit head first rows last h.
      rw going (kept_last new.reader.taken rows _ (same last) last h.got.stands)

  -- the last line was read
  pub taken_end : is_done new.reader.stage ≡ true
      → (old.reader.keeping ≡ Last → new.reader.rows ≡ old.reader.rows)
      → TakesLast remaining now old new
  taken_end done same = λ limit head first rows last h.
      rw done (kept_last new.reader.rows rows _ (same last) last h.got.stands)
