-- How far the inputs' rows were taken, by the streams that read them.
use Rattle.aprs_fold.proofs.Common.{◌≡◌, ◌∙◌, ℕ, zero, suc, false, List, [], ◌∷◌, ◌++◌, map, set, Option, None, Some, Ok, inl, inr, refl, sym, ap, subst, append_assoc, last_or, Counted, Row, millis_of}
use Rattle.aprs_log.specs.LogText.{text_of_lines}
use Rattle.aprs_bookfile.specs.Piece.{bytes_left}
use Rattle.aprs_bookfile.specs.Reader.{gap_in, is_done, HasReadLines}
use Rattle.aprs_bookfile.specs.Reading.{Got, IsAnswered}
use Rattle.aprs_bookfile.specs.RowStream.{front_of, gap_of_stream, is_ended, HoldsTo}
use Rattle.aprs_bookfile.specs.Text.{row_line, IsBookRows}
use Rattle.aprs_bookfile.specs.Version.{form_of, gap_of, header_of}
use Rattle.aprs_bookfile.specs.declared.stage.Stage.{Stage}
use Rattle.aprs_bookfile.specs.declared.stage.Stage.TheVariants.{Header, Rows, Done}
use Rattle.aprs_bookfile.specs.declared.row_stream.RowStream.{RowStream}
use Rattle.aprs_bookfile.specs.declared.version.Version.{Version}
use Rattle.aprs_fold.specs.Folding.{IsFolding}
use Rattle.aprs_fold.specs.Begun.{AreFolded, AreTaken, BeginsWith, IsTaken}
use Rattle.aprs_fold.specs.Fronts.{row_at}
use Rattle.aprs_fold.specs.Inputs.{all_of}
use Rattle.aprs_fold.specs.Streams.{fronts_of, taken_at, AreReading, ChangesAt, IsReading}

-- a list that is changed at one place, or not
pub ChangesAt-none : {X : Type 0} (i : ℕ) (xs : List X) → ChangesAt i xs xs
ChangesAt-none i [] = tt
ChangesAt-none zero (x ∷ xs) = refl
ChangesAt-none (suc i) (x ∷ xs) = (refl, ChangesAt-none i xs)

pub ChangesAt-set : {X : Type 0} (i : ℕ) (xs : List X) (y : X) → ChangesAt i xs (set xs i y)
ChangesAt-set i [] y = tt
ChangesAt-set zero (x ∷ xs) y = refl
ChangesAt-set (suc i) (x ∷ xs) y = (refl, ChangesAt-set i xs y)

-- the lines of a header and of rows
abbrev lines_so : Version → List Row → List ℕ
lines_so v rows = text_of_lines (header_of v ∷ map (row_line (form_of v)) rows)

begins_in : (gap : ℕ) (stage : Stage) (rows : List Row) (line t : List ℕ) (x : Row)
    (before : List Row) → rows ≡ before ++ x ∷ [] → is_done stage ≡ false → gap_in stage ≡ gap
    → HasReadLines stage rows line t → (v : Version) × (rest : List ℕ) × (gap_of v ≡ gap)
    × IsBookRows v rows × (t ≡ lines_so v rows ++ rest)
begins_in gap Header rows line t x [] e going is h = absurd (let f = sym h.holds ∙ e in cc)
begins_in gap Header rows line t x (y ∷ before) e going is h =
    absurd (let f = sym h.holds ∙ e in cc)
begins_in gap (Rows v) rows line t x before e going is h = (v, line, is, h.holds, h.text_is)
begins_in gap (Done v) rows line t x before e going is h = absurd (cc)

got_begins : {A : Type 0} (gap limit : ℕ) (s : RowStream A) (known after : Option (List ℕ))
    (before : List Row) (x : Row) (left : ℕ) → is_ended s ≡ false → gap_of_stream s ≡ gap
    → Got (HoldsTo s (before ++ x ∷ [])) [] known after limit left
    → BeginsWith gap (before ++ x ∷ []) known
got_begins gap limit s None after before x left going is h = tt
got_begins gap limit s (Some text) None before x left going is h = absurd h.took
got_begins gap limit s (Some text) (Some rest) before x left going is h =
    let b = begins_in gap s.reader.stage (before ++ x ∷ []) h.stands.2.line h.stands.0 x before
    refl going is h.stands.2.lines in
    let whole : text ≡ h.stands.0 ++ (bytes_left s.piece ++ rest) =
    h.took ∙ ap (λ l. l ++ rest) h.stands.1
    ∙ append_assoc h.stands.0 (bytes_left s.piece) rest in (
      b.0,
      b.1 ++ (bytes_left s.piece ++ rest),
      b.2,
      b.3,
      whole ∙ ap (λ l. l ++ (bytes_left s.piece ++ rest)) b.4
          ∙ append_assoc (lines_so b.0 (before ++ x ∷ [])) b.1 (bytes_left s.piece ++ rest),
    )

module _ {R A : Type 0} (remaining : R → Option (List ℕ)) (limit gap : ℕ) where
  reading_taken : (f n : Counted R) (s : RowStream A) (t : List Row)
      → IsReading remaining limit gap f n s t → IsTaken remaining limit gap f n t (front_of s)
  reading_taken f n s t h = elim h.gets [
    | inl one ↦ inl (
      one.0,
      one.1,
      inl (got_begins gap limit s (remaining f.device) (remaining n.device) t one.0 s.left one.2
          h.gap_is one.3.got),
    )
    | inr none ↦ inr (
      none.0,
      subst (λ (g : ℕ). IsAnswered remaining limit [] (Ok (record { gap = g; rows = t })) f n)
          h.gap_is none.2,
    )
  ]

  -- the row in front is taken, and whatever was read after it
  next_taken : (f n m : Counted R) (s : RowStream A) (t : List Row) (x : Row)
      → last_or None (front_of s) ≡ Some x → IsReading remaining limit gap f n s t
      → IsTaken remaining limit gap f m (t ++ front_of s) (front_of s)
  next_taken f n m s t x is h = elim h.gets [
    | inl one ↦ inl (
      one.0,
      one.1,
      inr (
        t,
        ap (λ (l : List Row). t ++ l) one.1,
        subst (λ (l : List Row). BeginsWith gap (t ++ l) (remaining f.device)) (sym one.1)
            (got_begins gap limit s (remaining f.device) (remaining n.device) t one.0 s.left one.2
            h.gap_is one.3.got),
      ),
    )
    | inr none ↦ absurd (let e : None ≡ Some x = ap (last_or None) (sym none.0) ∙ is in cc)
  ]

  all_taken : (first now : List (Counted R)) (streams : List (RowStream A))
      (taken : List (List Row)) → AreReading remaining limit gap first now streams taken
      → AreTaken remaining limit gap first now taken (map front_of streams)
  all_taken [] [] [] [] h = tt
  all_taken [] [] [] (t ∷ taken) h = absurd h
  all_taken [] [] (s ∷ streams) taken h = absurd h
  all_taken [] (n ∷ now) streams taken h = absurd h
  all_taken (f ∷ first) [] streams taken h = absurd h
  all_taken (f ∷ first) (n ∷ now) [] taken h = absurd h
  all_taken (f ∷ first) (n ∷ now) (s ∷ streams) [] h = absurd h
  all_taken (f ∷ first) (n ∷ now) (s ∷ streams) (t ∷ taken) h =
      (reading_taken f n s t h.0, all_taken first now streams taken h.1)

  one_taken : (i : ℕ) (first now others : List (Counted R)) (streams : List (RowStream A))
      (taken : List (List Row)) (x : Row) → ChangesAt i now others → row_at streams i ≡ Some x
      → AreReading remaining limit gap first now streams taken
      → AreTaken remaining limit gap first others (taken_at streams i taken) (map front_of streams)
  one_taken i [] [] others [] [] x changes is h = absurd (cc)
  one_taken i [] [] others [] (t ∷ taken) x changes is h = absurd h
  one_taken i [] [] others (s ∷ streams) taken x changes is h = absurd h
  one_taken i [] (n ∷ now) others streams taken x changes is h = absurd h
  one_taken i (f ∷ first) [] others streams taken x changes is h = absurd h
  one_taken i (f ∷ first) (n ∷ now) others [] taken x changes is h = absurd h
  one_taken i (f ∷ first) (n ∷ now) others (s ∷ streams) [] x changes is h = absurd h
  one_taken zero (f ∷ first) (n ∷ now) [] (s ∷ streams) (t ∷ taken) x changes is h = absurd changes
  one_taken (suc i) (f ∷ first) (n ∷ now) [] (s ∷ streams) (t ∷ taken) x changes is h =
      absurd changes
  one_taken zero (f ∷ first) (n ∷ now) (m ∷ others) (s ∷ streams) (t ∷ taken) x changes is h = (
    next_taken f n m s t x is h.0,
    subst (λ (l : List (Counted R)). AreTaken remaining limit gap first l taken
        (map front_of streams)) changes (all_taken first now streams taken h.1),
  )
  one_taken (suc i) (f ∷ first) (n ∷ now) (m ∷ others) (s ∷ streams) (t ∷ taken) x changes is h = (
    subst (λ (w : Counted R). IsTaken remaining limit gap f w t (front_of s)) changes.0
        (reading_taken f n s t h.0),
    one_taken i first now others streams taken x changes.1 is h.1,
  )

  fronts_all : (streams : List (RowStream A)) → all_of (map front_of streams) ≡ fronts_of streams
  fronts_all [] = refl
  fronts_all (s ∷ streams) = ap (λ (l : List Row). front_of s ++ l) (fronts_all streams)

  -- the rows that were taken are folded
  pub folded_all : (first now : List (Counted R)) (streams : List (RowStream A))
      (taken : List (List Row)) (rows last : List Row)
      → AreReading remaining limit gap first now streams taken
      → IsFolding (millis_of gap) (all_of taken) (fronts_of streams) rows last
      → AreFolded remaining limit gap first now rows last
  folded_all first now streams taken rows last h folding = record {
    taken = taken;
    front = map front_of streams;
    inputs = all_taken first now streams taken h;
    folding = subst (λ (l : List Row). IsFolding (millis_of gap) (all_of taken) l rows last)
        (sym (fronts_all streams)) folding;
  }

  -- one more was taken
  pub folded_one : (i : ℕ) (first now others : List (Counted R)) (streams : List (RowStream A))
      (taken : List (List Row)) (x : Row) (rows last : List Row) → ChangesAt i now others
      → row_at streams i ≡ Some x → AreReading remaining limit gap first now streams taken
      → IsFolding (millis_of gap) (all_of (taken_at streams i taken)) (fronts_of streams) rows last
      → AreFolded remaining limit gap first others rows last
  folded_one i first now others streams taken x rows last changes is h folding = record {
    taken = taken_at streams i taken;
    front = map front_of streams;
    inputs = one_taken i first now others streams taken x changes is h;
    folding = subst (λ (l : List Row). IsFolding (millis_of gap)
        (all_of (taken_at streams i taken)) l rows last) (sym (fronts_all streams)) folding;
  }
