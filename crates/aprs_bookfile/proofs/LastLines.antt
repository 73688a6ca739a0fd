-- A refused allocation before the first line or after the last.
use Rattle.aprs_bookfile.proofs.Common.{◌≡◌, ℕ, ◌+◌, ◌-◌, ◌<◌, ◌≤◌, ◌^◌, true, false, List, [], ◌∷◌, ◌++◌, length, map, Option, Err, inl, inr, refl, sym, ap, ◌∙◌, subst, append-nil, arith, flat_map-append, Row, text_of_lines, IsSoundBook, Counted, Calls-none}
use Rattle.aprs_bookfile.specs.ReadRows.{StopsAfter}
use Rattle.aprs_bookfile.specs.Reading.{IsAnswered}
use Rattle.aprs_bookfile.specs.TextFault.{most_ahead}
use Rattle.aprs_bookfile.specs.declared.fault.BookFault.{BookFault}
use Rattle.aprs_bookfile.proofs.Inputs.{Got-none, IsAnswered-fault}
use Rattle.aprs_bookfile.specs.Reader.{HoldsIn, IsFault, IsOfText, HasReadLines, gap_in, is_done}
use Rattle.aprs_bookfile.specs.Text.{row_line, end_line, lines_of}
use Rattle.aprs_bookfile.specs.RowLines.{ended_by_lf}
use Rattle.aprs_bookfile.specs.Version.{form_of, header_of}
use Rattle.aprs_bookfile.specs.declared.fault.BookCause.TheVariants as cause
use Rattle.aprs_bookfile.specs.declared.stage.Stage.{Stage}
use Rattle.aprs_bookfile.specs.declared.stage.Stage.TheVariants.{Header, Rows, Done}
use Rattle.aprs_bookfile.specs.declared.version.Version.{Version}
use Rattle.aprs_bookfile.proofs.OneText.{end_lacks}
use Rattle.aprs_bookfile.proofs.Standing.{number_is}
use Rattle.aprs_bookfile.proofs.BookRows.{rows_sound}

module _ (v : Version) (rows : List Row) where
  -- its lines but the last
  abbrev lines_before : List (List ℕ)
  lines_before = header_of v ∷ map (row_line (form_of v)) rows

  last_apart : text_of_lines (lines_of v rows)
      ≡ text_of_lines lines_before ++ (end_line (length rows) ++ 10 ∷ [])
  last_apart = flat_map-append ended_by_lf lines_before (end_line (length rows) ∷ [])
      ∙ ap (λ l. text_of_lines lines_before ++ l)
      (append-nil (ended_by_lf (end_line (length rows))))

-- before anything of the text but its head was looked at, an allocation fails in the first line
pub first_refused : {R : Type 0} (remaining : R → Option (List ℕ)) (limit : ℕ) (head : List ℕ)
    (first : Counted R) (f : BookFault) → f ≡ record { line = 1; cause = cause.Memory }
    → length head ≤ 8 → length head ≤ limit
    → IsAnswered remaining limit head (Err f) first first
first_refused remaining limit head first f is few within =
    IsAnswered-fault remaining limit head first first (limit - length head) (Calls-none _) f
    (subst (λ (g : BookFault). IsOfText g.cause) (sym is) ((λ e. cc), (λ e. cc)))
    (Got-none (IsFault most_ahead f) head _ limit (limit - length head)
    (subst (λ (g : BookFault). IsFault most_ahead g head) (sym is) (inl (record {
      refused = refl;
      lines = [];
      line = [];
      more = head;
      whole = refl;
      one = tt;
      near = omega (arith, few);
      begins = inl refl;
      number = refl;
    }))) (omega (arith, within)))

-- no rows come before the first line
pub first_stops : (f : BookFault) (rows : List Row) → f ≡ record { line = 1; cause = cause.Memory }
    → rows ≡ [] → StopsAfter f rows
first_stops f rows is none = λ e. inl (ap (λ (g : BookFault). g.line) is, none)

-- after the last line it fails in that line
pub done_refused : (stage : Stage) (rows : List Row) (line t : List ℕ) → is_done stage ≡ true
    → length rows < 2 ^ 64 → HasReadLines stage rows line t
    → IsFault 1 (record { line = length rows + 2; cause = cause.Memory }) t
done_refused Header rows line t done few s = absurd (let f : false ≡ true = done in cc)
done_refused (Rows v) rows line t done few s = absurd (let f : false ≡ true = done in cc)
done_refused (Done v) rows line t done few s = inl (record {
  refused = refl;
  lines = lines_before v rows;
  line = end_line (length rows);
  more = 10 ∷ [];
  whole = s.text_is ∙ ap (λ l. text_of_lines (lines_of v rows) ++ l) s.holds.1
      ∙ append-nil (text_of_lines (lines_of v rows)) ∙ last_apart v rows;
  one = end_lacks (length rows) few;
  near = omega arith;
  begins = inr (v, rows, record { rows_are = s.holds.0; lines_are = refl });
  number = number_is (Rows v) rows;
})

-- where the last line was read, the rows are a book's under the gap that the header says
pub done_sound : (stage : Stage) (rows : List Row) (line : List ℕ) → is_done stage ≡ true
    → HoldsIn stage rows line → IsSoundBook (record { gap = gap_in stage; rows = rows })
done_sound Header rows line done h = absurd (let f : false ≡ true = done in cc)
done_sound (Rows v) rows line done h = absurd (let f : false ≡ true = done in cc)
done_sound (Done v) rows line done h =
    record { range = h.0.version; sound = rows_sound v rows h.0 }
