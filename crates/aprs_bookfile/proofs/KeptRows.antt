-- What a reader holds, and which rows it keeps.
use Rattle.aprs_bookfile.proofs.Common.{◌≡◌, ℕ, ◌+◌, Bool, true, false, List, [], ◌∷◌, ◌++◌, length, Option, Some, None, Result, Ok, Err, inl, inr, refl, sym, ap, ◌∙◌, subst, length-append, Row}
use Rattle.std.specs.List.{last_or}
use Rattle.std.specs.Prelude.{◌≢◌, IfNone, IfSome, MatchResult}
use Rattle.aprs_transmissions.specs.Gap.{millis_of}
use Rattle.aprs_transmissions.specs.declared.row_cause.RowCause.{RowCause}
use Rattle.aprs_transmissions.specs.declared.row_cause.RowCause.TheVariants as row
use Rattle.aprs_rows.specs.Refusal.{refusal}
use Rattle.aprs_bookfile.specs.Fault.{book_cause_of}
use Rattle.aprs_bookfile.specs.RowFields.{IsWrongRow}
use Rattle.aprs_bookfile.specs.Text.{end_line, row_line, IsBookRow}
use Rattle.aprs_bookfile.specs.TextFault.{is_end, IsWrong}
use Rattle.aprs_bookfile.specs.Version.{form_of, gap_of}
use Rattle.aprs_bookfile.specs.declared.fault.BookCause.TheVariants as cause
use Rattle.aprs_bookfile.specs.Reader.{HasReadLines, HoldsIn, IsFault, JudgesHeader, JudgesLine, is_done, is_first, line_number}
use Rattle.aprs_bookfile.specs.ReadRows.{IsNextLine, StopsAfter}
use Rattle.aprs_bookfile.specs.RowReader.{count_after, is_row_between, kept_after, list_of_row, row_at_stage, row_lent, rows_kept, HasReadTo, JudgesKept, KeepsRows, ReadsOne}
use Rattle.aprs_bookfile.specs.declared.fault.BookCause.{BookCause}
use Rattle.aprs_bookfile.specs.declared.stage.Stage.{Stage}
use Rattle.aprs_bookfile.specs.declared.stage.Stage.TheVariants.{Header, Rows, Done}
use Rattle.aprs_bookfile.specs.declared.row_reader.Keeping.{Keeping}
use Rattle.aprs_bookfile.specs.declared.row_reader.Keeping.TheVariants.{Each, Last}
use Rattle.aprs_bookfile.specs.declared.row_reader.RowReader.{RowReader}
use Rattle.aprs_bookfile.specs.declared.version.Version.{Version}
use Rattle.aprs_bookfile.proofs.HeldLines.{nothing_held, nothing_lean}
use Rattle.aprs_bookfile.proofs.Standing.{ended_fault, ended_stands, next_line}

pub last_pushed : (rows : List Row) (x : Row) → last_or None (rows ++ x ∷ []) ≡ Some x
last_pushed [] x = refl
last_pushed (y ∷ []) x = refl
last_pushed (y ∷ z ∷ rows) x = last_pushed (z ∷ rows) x

-- the last row that is kept is that of all
pub last_of_kept : (keeping : Keeping) (rows : List Row)
    → last_or None (rows_kept keeping rows) ≡ last_or None rows
last_of_kept Each rows = refl
last_of_kept Last rows = by_last (last_or None rows) where
  by_last : (o : Option Row) → last_or None (list_of_row o) ≡ o
  by_last None = refl
  by_last (Some x) = refl

-- a row that is kept after the others is one of those that are to be kept
kept_more : (keeping : Keeping) (rows kept : List Row) (x : Row) → kept ≡ rows_kept keeping rows
    → kept_after keeping kept x ≡ rows_kept keeping (rows ++ x ∷ [])
kept_more Each rows kept x e = ap (λ (l : List Row). l ++ x ∷ []) e
kept_more Last rows kept x e = sym (ap list_of_row (last_pushed rows x))

module _ {A : Type 0} (reader : RowReader A) (rows : List Row) (line t : List ℕ) (count : ℕ) where
  -- the same rows
  reads_none : (stage next : Stage) → is_row_between stage next ≡ false
      → HasReadLines stage rows line t → count ≡ length rows
      → JudgesKept reader.keeping stage (Ok next) rows line reader.rows → reader.stage ≡ next
      → reader.line ≡ [] → reader.count ≡ count → HasReadTo reader rows (t ++ 10 ∷ [])
  reads_none stage next is s same j e f g =
      let new : j.new ≡ rows = none stage next is j.judged in
      let lines : HasReadLines next j.new [] (t ++ 10 ∷ []) =
      ended_stands stage next rows j.new line t j.judged s in
      record {
        line = [];
        lines = subst (λ (u : Stage). HasReadLines u rows [] (t ++ 10 ∷ [])) (sym e)
            (subst (λ (r : List Row). HasReadLines next r [] (t ++ 10 ∷ [])) new lines);
        held = nothing_held (is_first reader.stage) reader.line f;
        lean = nothing_lean (is_first reader.stage) reader.line f;
        count = g ∙ same;
        kept = j.keeps ∙ ap (rows_kept reader.keeping) new;
      } where
        none : (stage next : Stage) → is_row_between stage next ≡ false
            → JudgesLine stage (Ok next) rows line j.new → j.new ≡ rows
        none Header Header is h = absurd h
        none Header (Rows w) is h = h.2
        none Header (Done w) is h = absurd h
        none (Rows v) Header is h = absurd h
        none (Rows v) (Rows w) is h = absurd (let f : true ≡ false = is in cc)
        none (Rows v) (Done w) is h = h.2
        none (Done v) next is h = absurd (let f = h.0 in cc)

  -- one row more, where both stages are of rows
  reads_row : (v w : Version) → HasReadLines (Rows v) rows line t → count ≡ length rows
      → JudgesKept reader.keeping (Rows v) (Ok (Rows w)) rows line reader.rows
      → reader.stage ≡ Rows w → reader.line ≡ [] → reader.count ≡ count + 1
      → ReadsOne true reader rows (t ++ 10 ∷ [])
  reads_row v w s same j e f g =
      let x = j.judged.1 in
      let new : j.new ≡ rows ++ x ∷ [] = j.judged.4 in
      let lines : HasReadLines (Rows w) j.new [] (t ++ 10 ∷ []) =
      ended_stands (Rows v) (Rows w) rows j.new line t j.judged s in
      let kept : reader.rows ≡ rows_kept reader.keeping (rows ++ x ∷ []) =
      j.keeps ∙ ap (rows_kept reader.keeping) new in
      let last : last_or None reader.rows ≡ Some x = ap (last_or None) kept
      ∙ last_of_kept reader.keeping (rows ++ x ∷ []) ∙ last_pushed rows x in
      let own : row_lent reader ≡ x ∷ [] =
      ap (λ (u : Stage). row_at_stage u reader.rows) e ∙ ap list_of_row last in (
        x,
        own,
        ap is_done e,
        record {
          line = [];
          lines = subst (λ (u : Stage). HasReadLines u (rows ++ x ∷ []) [] (t ++ 10 ∷ [])) (sym e)
              (subst (λ (r : List Row). HasReadLines (Rows w) r [] (t ++ 10 ∷ [])) new lines);
          held = nothing_held (is_first reader.stage) reader.line f;
          lean = nothing_lean (is_first reader.stage) reader.line f;
          count = g ∙ ap (λ n. n + 1) same ∙ sym (length-append rows (x ∷ []));
          kept = kept;
        },
      )

  reads_between : (stage next : Stage) (b : Bool) → is_row_between stage next ≡ b
      → HasReadLines stage rows line t → count ≡ length rows
      → JudgesKept reader.keeping stage (Ok next) rows line reader.rows → reader.stage ≡ next
      → reader.line ≡ [] → reader.count ≡ count_after b count
      → ReadsOne b reader rows (t ++ 10 ∷ [])
  reads_between stage next false is s same j e f g = reads_none stage next is s same j e f g
  reads_between Header next true is s same j e f g = absurd (let h : false ≡ true = is in cc)
  reads_between (Rows v) Header true is s same j e f g = absurd (let h : false ≡ true = is in cc)
  reads_between (Rows v) (Rows w) true is s same j e f g = reads_row v w s same j e f g
  reads_between (Rows v) (Done w) true is s same j e f g = absurd (let h : false ≡ true = is in cc)
  reads_between (Done v) next true is s same j e f g = absurd (let h : false ≡ true = is in cc)

  -- the line that ends here is judged so
  pub reads_line : (keeping : Keeping) (kept : List Row) (stage next : Stage) (b : Bool)
      → reader.keeping ≡ keeping → reader.rows ≡ kept → b ≡ is_row_between stage next
      → HasReadLines stage rows line t → count ≡ length rows
      → JudgesKept keeping stage (Ok next) rows line kept → reader.stage ≡ next
      → reader.line ≡ [] → reader.count ≡ count_after b count
      → ReadsOne b reader rows (t ++ 10 ∷ [])
  reads_line keeping kept stage next b k r is s same j =
      reads_between stage next b (sym is) s same
      (subst (λ (u : Keeping). JudgesKept u stage (Ok next) rows line reader.rows) (sym k)
      (subst (λ (l : List Row). JudgesKept keeping stage (Ok next) rows line l) (sym r) j))

-- a line that isn't judged adds no rows
stays : (stage : Stage) (rows : List Row) (line : List ℕ) (c : BookCause) (new : List Row)
    → JudgesLine stage (Err c) rows line new → new ≡ rows
stays Header rows line c new h = h.1
stays (Rows v) rows line c new h = h.1
stays (Done v) rows line c new h = h.1

-- the line that ends here is wrong, or an allocation failed
pub kept_fault : (keeping : Keeping) (stage : Stage) (rows : List Row) (line t more : List ℕ)
    (c : BookCause) (kept : List Row) (count : ℕ)
    → JudgesKept keeping stage (Err c) rows line kept
    → HasReadLines stage rows line t → count ≡ length rows
    → IsFault (length more + 1) (record { line = line_number stage count; cause = c })
    (t ++ 10 ∷ more)
kept_fault keeping stage rows line t more c kept count j s same =
    subst (λ n. IsFault (length more + 1) (record { line = line_number stage n; cause = c })
    (t ++ 10 ∷ more)) (ap length (stays stage rows line c j.new j.judged) ∙ sym same)
    (ended_fault stage rows j.new line t more c j.judged s)

-- where each row is kept, memory is refused in the line after those of the rows
pub stops_in : (stage : Stage) (rows kept : List Row) (line : List ℕ) (count : ℕ) (c : BookCause)
    → is_done stage ≡ false → HoldsIn stage rows line → count ≡ length rows → kept ≡ rows
    → StopsAfter (record { line = line_number stage count; cause = c }) kept
stops_in stage rows kept line count c going h same is = λ e.
    subst (λ n. IsNextLine (line_number stage n) kept) (ap length is ∙ sym same)
    (next_line stage kept line going (subst (λ (r : List Row). HoldsIn stage r line) (sym is) h))

pub kept_stop : (keeping : Keeping) (stage : Stage) (rows : List Row) (line own : List ℕ)
    (c : BookCause) (kept : List Row) (count : ℕ)
    → JudgesKept keeping stage (Err c) rows line kept → is_done stage ≡ false
    → HoldsIn stage rows own → count ≡ length rows → keeping ≡ Each
    → StopsAfter (record { line = line_number stage count; cause = c }) kept
kept_stop keeping stage rows line own c kept count j going h same each =
    stops_in stage rows kept own count c going h same
    (j.keeps each ∙ stays stage rows line c j.new j.judged)

-- ---- a line judged

-- the same rows are kept
same_kept : (keeping : Keeping) (answer : Result Stage BookCause) (rows kept : List Row)
    → kept ≡ rows_kept keeping rows → KeepsRows keeping answer rows kept
same_kept keeping (Ok stage) rows kept e = e
same_kept keeping (Err c) rows kept e =
    λ each. e ∙ ap (λ (k : Keeping). rows_kept k rows) each

module _ (keeping : Keeping) (rows kept : List Row) (line : List ℕ) where
  pub judged_wrong : (v : Version) (why : BookCause)
      → IsWrong (millis_of (gap_of v)) (form_of v) rows line why
      → (keeping ≡ Each → kept ≡ rows)
      → JudgesKept keeping (Rows v) (Err why) rows line kept
  judged_wrong v why w e = record { new = rows; judged = (inr w, refl); keeps = e }

  pub judged_memory : (v : Version) → (keeping ≡ Each → kept ≡ rows)
      → JudgesKept keeping (Rows v) (Err cause.Memory) rows line kept
  judged_memory v e = record { new = rows; judged = (inl refl, refl); keeps = e }

  module _ (same : kept ≡ rows_kept keeping rows) where
    each : keeping ≡ Each → kept ≡ rows
    each is = same ∙ ap (λ (k : Keeping). rows_kept k rows) is

    -- a line that begins as the last line does
    pub judged_last : (v : Version) (answer : Result Stage BookCause) (count : ℕ)
        → count ≡ length rows → is_end line ≡ true
        → MatchResult answer (λ stage. (stage ≡ Done v) × (line ≡ end_line count))
        (λ why. (why ≡ cause.Ending) × (line ≢ end_line count))
        → JudgesKept keeping (Rows v) answer rows line kept
    judged_last v (Ok stage) count is end h =
        subst (λ (u : Stage). JudgesKept keeping (Rows v) (Ok u) rows line kept) (sym h.0)
        (record { new = rows; judged = (refl, h.1 ∙ ap end_line is, refl); keeps = same })
    judged_last v (Err why) count is end h =
        subst (λ (c : BookCause). JudgesKept keeping (Rows v) (Err c) rows line kept) (sym h.0)
        (judged_wrong v cause.Ending (end, λ e. h.1 (e ∙ ap end_line (sym is))) each)

    pub judged_unread : (v : Version) (why : BookCause) → is_end line ≡ false
        → IsWrongRow (form_of v) line why
        → JudgesKept keeping (Rows v) (Err why) rows line kept
    judged_unread v why end h = elim h [
      | inl n ↦ subst (λ (c : BookCause). JudgesKept keeping (Rows v) (Err c) rows line kept)
          (sym n.0) (judged_wrong v cause.RowSyntax (end, n.1) each)
      | inr f ↦ subst (λ (c : BookCause). JudgesKept keeping (Rows v) (Err c) rows line kept)
          (sym f.0) (judged_wrong v cause.Frame f.1 each)
    ]

    -- the last row is that of all
    pub last_kept : (r : Option Row) → IfSome r (λ x. last_or None kept ≡ Some x)
        → IfNone r (kept ≡ []) → last_or None rows ≡ r
    last_kept r some none =
        sym (ap (last_or None) same ∙ last_of_kept keeping rows) ∙ by_row r some none where
          by_row : (r : Option Row) → IfSome r (λ x. last_or None kept ≡ Some x)
              → IfNone r (kept ≡ []) → last_or None kept ≡ r
          by_row None some none = ap (last_or None) none
          by_row (Some x) some none = some

    pub judged_refused : (v : Version) (why : RowCause) (x : Row) → IsBookRow (form_of v) x
        → line ≡ row_line (form_of v) x → refusal (millis_of (gap_of v)) rows x ≡ Some why
        → JudgesKept keeping (Rows v) (Err (book_cause_of why)) rows line kept
    judged_refused v why x is spelled refused = by_cause why refused where
      by_cause : (why : RowCause) → refusal (millis_of (gap_of v)) rows x ≡ Some why
          → JudgesKept keeping (Rows v) (Err (book_cause_of why)) rows line kept
      by_cause row.Order e = judged_wrong v cause.Order
          (record { row = x; is = is; spelled = spelled; refused = e }) each
      by_cause row.Span e = judged_wrong v cause.Span
          (record { row = x; is = is; spelled = spelled; refused = e }) each
      by_cause row.Near e = judged_wrong v cause.Near
          (record { row = x; is = is; spelled = spelled; refused = e }) each
      by_cause row.Receivers e = judged_wrong v cause.Receivers
          (record { row = x; is = is; spelled = spelled; refused = e }) each
      by_cause row.NotGreatest e = judged_wrong v cause.NotGreatest
          (record { row = x; is = is; spelled = spelled; refused = e }) each
      by_cause row.Memory e = judged_memory v each

    pub judged_row : (v : Version) (x : Row) (new : List Row) → IsBookRow (form_of v) x
        → line ≡ row_line (form_of v) x → refusal (millis_of (gap_of v)) rows x ≡ None
        → new ≡ kept_after keeping kept x
        → JudgesKept keeping (Rows v) (Ok (Rows v)) rows line new
    judged_row v x new is spelled free own = record {
      new = rows ++ x ∷ [];
      judged = (refl, x, is, spelled, refl, free);
      keeps = own ∙ kept_more keeping rows kept x same;
    }

    pub judged_header : (stage : Stage) (answer : Result Stage BookCause) → stage ≡ Header
        → JudgesHeader answer rows line rows → JudgesKept keeping stage answer rows line kept
    judged_header stage answer is h =
        subst (λ (u : Stage). JudgesKept keeping u answer rows line kept) (sym is)
        (record { new = rows; judged = h; keeps = same_kept keeping answer rows kept same })

    pub judged_done : (stage : Stage) (v : Version) → stage ≡ Done v
        → JudgesKept keeping stage (Err cause.After) rows line kept
    judged_done stage v is =
        subst (λ (u : Stage). JudgesKept keeping u (Err cause.After) rows line kept) (sym is)
        (record { new = rows; judged = (refl, refl); keeps = each })
