-- Lemmas on what was read of a book's text at each stage.
use Rattle.aprs_bookfile.proofs.Common.{◌≡◌, ℕ, ◌+◌, ◌<◌, ◌≤◌, true, false, List, [], ◌∷◌, ◌++◌, length, map, None, Result, Ok, Err, inl, inr, refl, sym, ap, ◌∙◌, subst, append_assoc, append-nil, length-append, arith, ◌≢◌, All, IfErr, length-map, map_push, flat_map-append, All-nil, All-push, InputEnd, millis_of, Row, Sound, none_exactly, text_of_lines}
use Rattle.aprs_rows.specs.Refusal.{refusal}
use Rattle.aprs_io.specs.declared.input.InputEnd.TheVariants as ending
use Rattle.aprs_io.specs.Cut.{Lacks}
use Rattle.aprs_bookfile.proofs.Cuts.{lacks_append}
use Rattle.aprs_bookfile.specs.FirstFault.{FirstFault}
use Rattle.aprs_bookfile.specs.Reader.{HoldsIn, HasReadLines, IsFault, JudgesLine, AgreesWithEnding, gap_in, is_done, line_number, lines_read, may_end}
use Rattle.aprs_bookfile.specs.ReadRows.{IsNextLine, StopsAfter}
use Rattle.aprs_bookfile.specs.Text.{row_line, end_line, lines_of, book_text, IsBookRow, IsBookRows}
use Rattle.aprs_bookfile.specs.RowLines.{ended_by_lf}
use Rattle.aprs_bookfile.specs.BookAnswers.{IsAnswerFor}
use Rattle.aprs_bookfile.specs.Fault.{ending_cause}
use Rattle.aprs_bookfile.specs.Version.{form_of, gap_of, header_of, IsVersion}
use Rattle.aprs_bookfile.specs.declared.fault.BookCause.{BookCause}
use Rattle.aprs_bookfile.specs.declared.fault.BookCause.TheVariants as cause
use Rattle.aprs_bookfile.specs.declared.fault.BookFault.{BookFault}
use Rattle.aprs_bookfile.specs.declared.stage.Stage.{Stage}
use Rattle.aprs_bookfile.specs.declared.stage.Stage.TheVariants.{Header, Rows, Done}
use Rattle.aprs_bookfile.specs.declared.version.Version.{Version}
use Rattle.aprs_bookfile.proofs.BookRows.{rows_are, rows_sound}

-- ---- one more line

one_more : (ls : List (List ℕ)) (line t : List ℕ) → t ≡ text_of_lines ls ++ line
    → t ++ 10 ∷ [] ≡ text_of_lines (ls ++ line ∷ []) ++ []
one_more ls line t e =
    ap (λ l. l ++ 10 ∷ []) e ∙ append_assoc (text_of_lines ls) line (10 ∷ [])
    ∙ ap (λ l. text_of_lines ls ++ l) (sym (append-nil (ended_by_lf line)))
    ∙ sym (flat_map-append ended_by_lf ls (line ∷ []))
    ∙ sym (append-nil (text_of_lines (ls ++ line ∷ [])))

-- ---- a line judged

-- no rows are a book's
pub no_rows : (v : Version) → IsVersion v → IsBookRows v []
no_rows v h = rows_are v [] h
    (record { ascending = tt; apart = tt; each = λ x h. absurd h })
    (All-nil (IsBookRow (form_of v)))

ended_header : (v : Version) (old new : List Row) (line t : List ℕ) → IsVersion v
    → line ≡ header_of v → new ≡ old → HasReadLines Header old line t
    → HasReadLines (Rows v) new [] (t ++ 10 ∷ [])
ended_header v old new line t h is same s =
    let none : new ≡ [] = same ∙ s.holds in
    let lines : line ∷ [] ≡ header_of v ∷ map (row_line (form_of v)) new
    = ap (λ l. l ∷ []) is ∙ ap (λ (rows : List Row). header_of v ∷ map (row_line (form_of v)) rows)
    (sym none) in
    record {
      text_is = one_more [] line t s.text_is ∙ ap
          (λ (ls : List (List ℕ)). text_of_lines ls ++ []) lines;
      one = tt;
      holds = subst (IsBookRows v) (sym none) (no_rows v h);
    }

ended_row : (v : Version) (old new : List Row) (x : Row) (line t : List ℕ) → IsBookRow (form_of v) x
    → line ≡ row_line (form_of v) x → new ≡ old ++ x ∷ []
    → refusal (millis_of (gap_of v)) old x ≡ None
    → HasReadLines (Rows v) old line t → HasReadLines (Rows v) new [] (t ++ 10 ∷ [])
ended_row v old new x line t is line_is grown free s =
    let lines : header_of v ∷ map (row_line (form_of v)) old ++ line ∷ [] ≡ header_of v
    ∷ map (row_line (form_of v)) new
    = ap (λ l. header_of v ∷ map (row_line (form_of v)) old ++ l ∷ []) line_is
    ∙ ap (λ ls. header_of v ∷ ls) (sym (map_push (row_line (form_of v)) old x))
    ∙ ap (λ (rows : List Row). header_of v ∷ map (row_line (form_of v)) rows) (sym grown) in
    record {
      text_is = one_more (header_of v ∷ map (row_line (form_of v)) old) line t s.text_is
          ∙ ap (λ (ls : List (List ℕ)). text_of_lines ls ++ []) lines;
      one = tt;
      holds = rows_are v new s.holds.version
          (subst (Sound (millis_of (gap_of v))) (sym grown)
          ((none_exactly (millis_of (gap_of v)) old x (rows_sound v old s.holds)).0 free))
          (subst (All (IsBookRow (form_of v))) (sym grown)
          (All-push (IsBookRow (form_of v)) old x s.holds.each is));
    }

ended_last : (v : Version) (old new : List Row) (line t : List ℕ) → line ≡ end_line (length old)
    → new ≡ old → HasReadLines (Rows v) old line t → HasReadLines (Done v) new [] (t ++ 10 ∷ [])
ended_last v old new line t is same s =
    let lines : header_of v ∷ map (row_line (form_of v)) old ++ line ∷ [] ≡ lines_of v new
    = ap (λ l. header_of v ∷ map (row_line (form_of v)) old ++ l ∷ []) is
    ∙ ap (lines_of v) (sym same) in
    record {
      text_is = one_more (header_of v ∷ map (row_line (form_of v)) old) line t s.text_is
          ∙ ap (λ (ls : List (List ℕ)). text_of_lines ls ++ []) lines;
      one = tt;
      holds = (subst (IsBookRows v) (sym same) s.holds, refl);
    }

pub ended_stands : (stage next : Stage) (old new : List Row) (line t : List ℕ)
    → JudgesLine stage (Ok next) old line new → HasReadLines stage old line t
    → HasReadLines next new [] (t ++ 10 ∷ [])
ended_stands Header Header old new line t j s = absurd j
ended_stands Header (Rows v) old new line t j s = ended_header v old new line t j.0 j.1 j.2 s
ended_stands Header (Done v) old new line t j s = absurd j
ended_stands (Rows v) Header old new line t j s = absurd j
ended_stands (Rows v) (Rows w) old new line t j s =
    subst (λ (u : Version). HasReadLines (Rows u) new [] (t ++ 10 ∷ [])) (sym j.0)
    (ended_row v old new j.1 line t j.2 j.3 j.4 j.5 s)
ended_stands (Rows v) (Done w) old new line t j s =
    subst (λ (u : Version). HasReadLines (Done u) new [] (t ++ 10 ∷ [])) (sym j.0)
    (ended_last v old new line t j.1 j.2 s)
ended_stands (Done v) next old new line t j s =
    absurd (let e : Ok next ≡ Err cause.After = j.0 in cc)

-- ---- faults

pub number_is : (stage : Stage) (rows : List Row)
    → line_number stage (length rows) ≡ length (lines_read stage rows) + 1
number_is Header rows = refl
number_is (Rows v) rows = omega (arith, length-map rows (row_line (form_of v)))
number_is (Done v) rows =
    let e : length (lines_of v rows) ≡ length (map (row_line (form_of v)) rows) + 2 =
    simp length-append (omega arith) in
    omega (arith, length-map rows (row_line (form_of v)), e)

and_more : (stage : Stage) (rows : List Row) (line t more : List ℕ) → HasReadLines stage rows line t
    → t ++ more ≡ text_of_lines (lines_read stage rows) ++ (line ++ more)
and_more stage rows line t more s = ap (λ l. l ++ more) s.text_is
    ∙ append_assoc (text_of_lines (lines_read stage rows)) line more

pub ended_fault : (stage : Stage) (old new : List Row) (line t more : List ℕ) (c : BookCause)
    → JudgesLine stage (Err c) old line new → HasReadLines stage old line t
    → IsFault (length more + 1) (record { line = line_number stage (length new); cause = c })
    (t ++ 10 ∷ more)
ended_fault Header old new line t more c j s = inr (λ e. record {
  lines = [];
  rest = line ++ 10 ∷ more;
  whole = and_more Header old line t (10 ∷ more) s;
  line = refl;
  fault = inl (record {
    none_read = refl;
    fault = inr (record { line = line; more = more; is = refl; one = s.one; holds = j.0 });
  });
})
ended_fault (Rows v) old new line t more c j s = elim j.0 [
  | inl m ↦ inl (record {
    refused = m;
    lines = header_of v ∷ map (row_line (form_of v)) old;
    line = line;
    more = 10 ∷ more;
    whole = and_more (Rows v) old line t (10 ∷ more) s;
    one = s.one;
    near = omega arith;
    begins = inr (v, old, record { rows_are = s.holds; lines_are = refl });
    number = ap (λ (rows : List Row). length rows + 2) j.1 ∙ number_is (Rows v) old;
  })
  | inr w ↦ inr (λ e. record {
    lines = header_of v ∷ map (row_line (form_of v)) old;
    rest = line ++ 10 ∷ more;
    whole = and_more (Rows v) old line t (10 ∷ more) s;
    line = ap (λ (rows : List Row). length rows + 2) j.1 ∙ number_is (Rows v) old;
    fault = inr (inl (record {
      version = v;
      rows = old;
      sound = s.holds;
      read = refl;
      fault = inr (record { line = line; more = more; is = refl; one = s.one; holds = w });
    }));
  })
]
ended_fault (Done v) old new line t more c j s =
    let is : c ≡ cause.After = (let e : Err c ≡ Err cause.After = j.0 in cc) in
    inr (λ e. record {
      lines = lines_of v old;
      rest = line ++ 10 ∷ more;
      whole = and_more (Done v) old line t (10 ∷ more) s;
      line = ap (λ (rows : List Row). length rows + 3) j.1 ∙ number_is (Done v) old;
      fault = inr (inr (record {
        version = v;
        rows = old;
        sound = s.holds.0;
        read = refl;
        fault = inl (simp length-append (omega arith), is);
      }));
    })

-- an allocation fails in the line that is read
pub held_fault : (stage : Stage) (rows : List Row) (line t bytes more : List ℕ)
    → is_done stage ≡ false → HasReadLines stage rows line t
    → IsFault (length bytes + length more) (record {
      line = line_number stage (length rows);
      cause = cause.Memory;
    }) ((t ++ bytes) ++ more)
held_fault Header rows line t bytes more going s = inl (record {
  refused = refl;
  lines = [];
  line = line;
  more = bytes ++ more;
  whole = append_assoc t bytes more ∙ and_more Header rows line t (bytes ++ more) s;
  one = s.one;
  near = omega (arith, length-append bytes more);
  begins = inl refl;
  number = refl;
})
held_fault (Rows v) rows line t bytes more going s = inl (record {
  refused = refl;
  lines = header_of v ∷ map (row_line (form_of v)) rows;
  line = line;
  more = bytes ++ more;
  whole = append_assoc t bytes more ∙ and_more (Rows v) rows line t (bytes ++ more) s;
  one = s.one;
  near = omega (arith, length-append bytes more);
  begins = inr (v, rows, record { rows_are = s.holds; lines_are = refl });
  number = number_is (Rows v) rows;
})
held_fault (Done v) rows line t bytes more going s = absurd (let f : true ≡ false = going in cc)

-- bytes that are held after those of the line
pub held_stands : (stage : Stage) (rows : List Row) (line t bytes : List ℕ) → is_done stage ≡ false
    → Lacks 10 bytes → HasReadLines stage rows line t
    → HasReadLines stage rows (line ++ bytes) (t ++ bytes)
held_stands stage rows line t bytes going lacks s = record {
  text_is = ap (λ l. l ++ bytes) s.text_is ∙ append_assoc
      (text_of_lines (lines_read stage rows)) line bytes;
  one = lacks_append 10 line bytes s.one lacks;
  holds = holds stage going s.holds;
} where
  holds : (stage : Stage) → is_done stage ≡ false → HoldsIn stage rows line
      → HoldsIn stage rows (line ++ bytes)
  holds Header going h = h
  holds (Rows v) going h = h
  holds (Done v) going h = absurd (let f : true ≡ false = going in cc)

-- none may be held after the last line
pub after_fault : (stage : Stage) (rows : List Row) (line t bytes more : List ℕ)
    → is_done stage ≡ true → 0 < length bytes → HasReadLines stage rows line t
    → IsFault (length bytes + length more) (record {
      line = line_number stage (length rows);
      cause = cause.After;
    }) ((t ++ bytes) ++ more)
after_fault Header rows line t bytes more done some s = absurd (let f : false ≡ true = done in cc)
after_fault (Rows v) rows line t bytes more done some s = absurd (let f : false ≡ true = done in cc)
after_fault (Done v) rows line t bytes more done some s = inr (λ e. record {
  lines = lines_of v rows;
  rest = line ++ (bytes ++ more);
  whole = append_assoc t bytes more ∙ and_more (Done v) rows line t (bytes ++ more) s;
  line = number_is (Done v) rows;
  fault = inr (inr (record {
    version = v;
    rows = rows;
    sound = s.holds.0;
    read = refl;
    fault = inl (simp (length-append, length-append) (omega (arith, some)), refl);
  }));
})

pub fault_near : (few most : ℕ) (f : BookFault) (t : List ℕ) → few ≤ most → IsFault few f t
    → IsFault most f t
fault_near few most f t less h = elim h [
  | inl m ↦ inl (record {
    refused = m.refused;
    lines = m.lines;
    line = m.line;
    more = m.more;
    whole = m.whole;
    one = m.one;
    near = omega (arith, m.near, less);
    begins = m.begins;
    number = m.number;
  })
  | inr first ↦ inr first
]

-- ---- the end

pub may_end-going : (stage : Stage) (e : InputEnd) → is_done stage ≡ false → may_end stage e ≡ false
may_end-going Header e going = refl
may_end-going (Rows v) e going = refl
may_end-going (Done v) e going = absurd (let f : true ≡ false = going in cc)

pub cut_fault : (stage : Stage) (rows : List Row) (line t : List ℕ) (e : InputEnd)
    → may_end stage e ≡ false → HasReadLines stage rows line t
    → FirstFault t e (record { line = line_number stage (length rows); cause = ending_cause e })
cut_fault Header rows line t e may s = record {
  lines = [];
  rest = line;
  whole = s.text_is;
  line = refl;
  fault = inl (record { none_read = refl; fault = inl (s.one, refl) });
}
cut_fault (Rows v) rows line t e may s = record {
  lines = header_of v ∷ map (row_line (form_of v)) rows;
  rest = line;
  whole = s.text_is;
  line = number_is (Rows v) rows;
  fault = inr (inl (record {
    version = v;
    rows = rows;
    sound = s.holds;
    read = refl;
    fault = inl (s.one, refl);
  }));
}
cut_fault (Done v) rows line t e may s = record {
  lines = lines_of v rows;
  rest = line;
  whole = s.text_is;
  line = number_is (Done v) rows;
  fault = inr (inr (record {
    version = v;
    rows = rows;
    sound = s.holds.0;
    read = refl;
    fault = inr (s.holds.1, not_end e may, refl);
  }));
} where
  not_end : (e : InputEnd) → may_end (Done v) e ≡ false → e ≢ ending.End
  not_end ending.End may = λ x. (let f : true ≡ false = may in cc)
  not_end ending.Read may = λ x. cc
  not_end ending.TooLong may = λ x. cc

-- the whole text was read
pub record IsWhole (stage : Stage) (rows : List Row) (t : List ℕ) (e : InputEnd) : Type 0 where
  pub version : Version
  pub stage_is : stage ≡ Done version
  pub text_is : t ≡ book_text version rows
  pub is : IsBookRows version rows
  pub ended : e ≡ ending.End

pub ended_whole : (stage : Stage) (rows : List Row) (line t : List ℕ) (e : InputEnd)
    → may_end stage e ≡ true → HasReadLines stage rows line t → IsWhole stage rows t e
ended_whole Header rows line t e may s = absurd (let f : false ≡ true = may in cc)
ended_whole (Rows v) rows line t e may s = absurd (let f : false ≡ true = may in cc)
ended_whole (Done v) rows line t e may s = record {
  version = v;
  stage_is = refl;
  text_is = s.text_is ∙ ap (λ l. book_text v rows ++ l) s.holds.1 ∙ append-nil (book_text v rows);
  is = s.holds.0;
  ended = is_end e may;
} where
  is_end : (e : InputEnd) → may_end (Done v) e ≡ true → e ≡ ending.End
  is_end ending.End may = refl
  is_end ending.Read may = absurd (let f : false ≡ true = may in cc)
  is_end ending.TooLong may = absurd (let f : false ≡ true = may in cc)

pub ended_read : (stage : Stage) (rows : List Row) (line t : List ℕ) (e : InputEnd)
    → may_end stage e ≡ true → HasReadLines stage rows line t
    → IsAnswerFor (Ok (record { gap = gap_in stage; rows = rows })) t e
ended_read stage rows line t e may s =
    let w = ended_whole stage rows line t e may s in
    (w.version, ap gap_in w.stage_is, w.text_is, w.is, w.ended)

-- ---- where an allocation failed

-- the next line is that after those of the rows
pub next_line : (stage : Stage) (rows : List Row) (line : List ℕ) → is_done stage ≡ false
    → HoldsIn stage rows line → IsNextLine (line_number stage (length rows)) rows
next_line Header rows line going h = inl (refl, h)
next_line (Rows v) rows line going h = inr refl
next_line (Done v) rows line going h = absurd (let f : true ≡ false = going in cc)

-- the input ended
pub ending_not_memory : (e : InputEnd) → ending_cause e ≢ cause.Memory
ending_not_memory ending.End = λ x. cc
ending_not_memory ending.Read = λ x. cc
ending_not_memory ending.TooLong = λ x. cc

pub ending_stop : (e : InputEnd) (line : ℕ) (rows : List Row)
    → StopsAfter (record { line = line; cause = ending_cause e }) rows
ending_stop e line rows is = absurd (ending_not_memory e is)

pub ends_err : {A : Type 0} (e : InputEnd) (r : Result A BookFault) → AgreesWithEnding e r
    → IfErr r (λ f. f.cause ≡ ending_cause e)
ends_err e (Ok value) is = tt
ends_err e (Err f) is = is
