-- Streams that are opened one after another.
use Rattle.aprs_fold.proofs.Common.{◌≡◌, ◌≢◌, ◌∙◌, ℕ, zero, suc, List, [], ◌∷◌, ◌++◌, length, map, set, Option, None, Some, Ok, inl, inr, refl, sym, ap, subst, append_assoc, arith, slice_get, Calls-none, Going, Counted, Row}
use Rattle.std.proofs.Common.{false, true, not, ◌==◌}
use Rattle.std.proofs.lemmas.Bool.Decides.{nat_tests}
use Rattle.std.specs.Prelude.{IfSome}
use Rattle.aprs_io.specs.Input.{Gets}
use Rattle.aprs_io.specs.declared.input.InputEnd.{InputEnd}
use Rattle.aprs_io.specs.declared.input.InputEnd.TheVariants as how
use Rattle.aprs_log.specs.LogText.{text_of_lines}
use Rattle.aprs_bookfile.specs.BookAnswers.{ReadsBook}
use Rattle.aprs_bookfile.specs.Piece.{bytes_left}
use Rattle.aprs_bookfile.specs.Reader.{gap_in, HasReadLines}
use Rattle.aprs_bookfile.specs.Reading.{Got}
use Rattle.aprs_bookfile.specs.Text.{book_text, end_line, row_line}
use Rattle.aprs_bookfile.specs.RowLines.{ended_by_lf}
use Rattle.aprs_bookfile.specs.RowStream.{gap_of_stream, GetsOne, HoldsTo}
use Rattle.aprs_bookfile.specs.Version.{form_of, gap_of, header_of, IsVersion}
use Rattle.aprs_bookfile.specs.declared.stage.Stage.{Stage}
use Rattle.aprs_bookfile.specs.declared.stage.Stage.TheVariants.{Header, Rows, Done}
use Rattle.aprs_bookfile.specs.declared.row_stream.RowStream.{RowStream}
use Rattle.aprs_bookfile.specs.declared.version.Version.{Version}
use Rattle.aprs_fold.specs.Inputs.{AreAsked, BeginsOther, IsAsked, IsOneRefused, IsRefused}
use Rattle.aprs_fold.specs.Streams.{AreOpened, AreReading, IsOfInputs, IsReading}
use Rattle.aprs_fold.specs.declared.fault.FoldFault.{FoldFault}
use Rattle.aprs_fold.specs.declared.fault.FoldFault.TheVariants.{Input, OtherGap, Memory, Write}
use Rattle.aprs_fold.proofs.Reading.{faulty_asked, reading_asked}

-- ---- how an input begins

-- the text begins with the header of this version, which a book can have
abbrev Begins : Version → List ℕ → Type 0
Begins v text = IsVersion v × ((more : List ℕ) × (text ≡ ended_by_lf (header_of v) ++ more))

began : (stage : Stage) (rows : List Row) (line t : List ℕ) (x : Row) → rows ≡ x ∷ []
    → HasReadLines stage rows line t → (v : Version) × (gap_in stage ≡ gap_of v) × Begins v t
began Header rows line t x e h = absurd (let f = sym h.holds ∙ e in cc)
began (Rows v) rows line t x e h = (
  v,
  refl,
  (
    h.holds.version,
    (
      text_of_lines (map (row_line (form_of v)) rows) ++ line,
      h.text_is ∙ append_assoc (ended_by_lf (header_of v))
          (text_of_lines (map (row_line (form_of v)) rows)) line,
    ),
  ),
)
began (Done v) rows line t x e h = (
  v,
  refl,
  (
    h.holds.0.version,
    (
      text_of_lines (map (row_line (form_of v)) rows ++ end_line (length rows) ∷ []) ++ line,
      h.text_is ∙ append_assoc (ended_by_lf (header_of v))
          (text_of_lines (map (row_line (form_of v)) rows ++ end_line (length rows) ∷ [])) line,
    ),
  ),
)

begins_more : (v : Version) (text more : List ℕ) → Begins v text → Begins v (text ++ more)
begins_more v text more h = (
  h.0,
  (
    h.1.0 ++ more,
    ap (λ l. l ++ more) h.1.1 ∙ append_assoc (ended_by_lf (header_of v)) h.1.0 more,
  ),
)

other : (gap own : ℕ) (v : Version) (text : List ℕ) → own ≢ gap → own ≡ gap_of v → Begins v text
    → BeginsOther gap (Some text)
other gap own v text unlike is h = (v, h.1.0, h.0, (λ e. unlike (is ∙ e)), h.1.1)

module _ {R A : Type 0} (remaining : R → Option (List ℕ)) (limit gap : ℕ) where
  got_other : (s : RowStream A) (known after : Option (List ℕ)) (x : Row) (left : ℕ)
      → gap_of_stream s ≢ gap
      → Got (HoldsTo s (x ∷ [])) [] known after limit left → BeginsOther gap known
  got_other s None after x left unlike h = tt
  got_other s (Some text) None x left unlike h = absurd h.took
  got_other s (Some text) (Some rest) x left unlike h =
      let b = began s.reader.stage (x ∷ []) h.stands.2.line h.stands.0 x refl
      h.stands.2.lines in
      let whole : text ≡ h.stands.0 ++ (bytes_left s.piece ++ rest) =
      h.took ∙ ap (λ l. l ++ rest) h.stands.1
      ∙ append_assoc h.stands.0 (bytes_left s.piece) rest in
      subst (λ l. BeginsOther gap (Some l)) (sym whole)
      (other gap (gap_of_stream s) b.0 (h.stands.0 ++ (bytes_left s.piece ++ rest)) unlike b.1
      (begins_more b.0 h.stands.0 (bytes_left s.piece ++ rest) b.2))

  book_other : (s : RowStream A) (known after : Option (List ℕ)) (rows : List Row)
      → gap_of_stream s ≢ gap
      → IfSome known (λ input. ReadsBook limit [] input after
      (Ok (record { gap = gap_of_stream s; rows = rows }))) → BeginsOther gap known
  book_other s None after rows unlike h = tt
  book_other s (Some text) after rows unlike h =
      let v = h.reads.0 in
      let whole : text ≡ book_text v rows ++ h.gets.rest =
      h.gets.whole ∙ ap (λ l. l ++ h.gets.rest) h.reads.2 in
      subst (λ l. BeginsOther gap (Some l)) (sym whole)
      (other gap (gap_of_stream s) v (book_text v rows ++ h.gets.rest) unlike h.reads.1
      (begins_more v (book_text v rows) h.gets.rest (
        h.reads.3.version,
        (
          text_of_lines (map (row_line (form_of v)) rows ++ end_line (length rows) ∷ []),
          refl,
        ),
      )))

  -- an input of another gap
  pub begins_other : (f n : Counted R) (s : RowStream A) → gap_of_stream s ≢ gap
      → GetsOne remaining limit [] f n s [] → BeginsOther gap (remaining f.device)
  begins_other f n s unlike h = elim h [
    | inl one ↦ got_other s (remaining f.device) (remaining n.device) one.0 s.left unlike one.3.got
    | inr none ↦ book_other s (remaining f.device) (remaining n.device) [] unlike none.2.reads
  ]

-- nothing was got of an input yet
none_got : (limit : ℕ) (known : Option (List ℕ))
    → IfSome known (λ input. (text : List ℕ) × (ending : InputEnd)
    × Gets limit input known text ending)
none_got limit None = tt
none_got limit (Some input) =
    ([], how.Read, record { rest = input; whole = refl; ends = (refl, omega arith) })

pub IsAsked-none : {R : Type 0} (remaining : R → Option (List ℕ)) (limit : ℕ) (f : Counted R)
    → IsAsked remaining limit f f
IsAsked-none remaining limit f = record {
  gets = none_got limit (remaining f.device);
  calls = (Going, Calls-none f);
}

pub AreAsked-none : {R : Type 0} (remaining : R → Option (List ℕ)) (limit : ℕ)
    (first : List (Counted R)) → AreAsked remaining limit first first
AreAsked-none remaining limit [] = tt
AreAsked-none remaining limit (f ∷ first) =
    (IsAsked-none remaining limit f, AreAsked-none remaining limit first)

module _ {R : Type 0} (remaining : R → Option (List ℕ)) (limit gap : ℕ) where
  -- one input is refused
  refuses : (i : ℕ) (fault : FoldFault) (n m : Counted R) (old new : List (Counted R))
      → slice_get old i ≡ Some n → slice_get new i ≡ Some m
      → IsOneRefused remaining limit gap i fault n m
      → IsRefused remaining limit gap fault old new
  refuses i (Input index fault) n m old new here there h = (
    n,
    m,
    ap (slice_get old) h.0 ∙ here,
    ap (slice_get new) h.0 ∙ there,
    h.1,
  )
  refuses i (OtherGap index) n m old new here there h =
      (n, ap (slice_get old) h.0 ∙ here, h.1)
  refuses i Memory n m old new here there h = tt
  refuses i Write n m old new here there h = tt

  pub one_asked : (i : ℕ) (fault : FoldFault) (n m : Counted R)
      → IsOneRefused remaining limit gap i fault n m → IsAsked remaining limit n m
  one_asked i (Input index fault) n m h = faulty_asked remaining limit n m fault h.1
  one_asked i (OtherGap index) n m h = h.2
  one_asked i Memory n m h = h
  one_asked i Write n m h = absurd h

set_place : {X : Type 0} (n m : X) (now : List X) (i : ℕ) → slice_get now i ≡ Some n
    → slice_get (set now i m) i ≡ Some m
set_place n m [] i here = absurd (cc)
set_place n m (b ∷ now) zero here = refl
set_place n m (b ∷ now) (suc i) here = set_place n m now i here

module _ {R A : Type 0} (remaining : R → Option (List ℕ)) (limit gap : ℕ) where
  -- one more is opened
  pub AreOpened-more : (first now : List (Counted R)) (streams : List (RowStream A)) (i : ℕ)
      (n m : Counted R) (s : RowStream A) → i ≡ length streams → slice_get now i ≡ Some n
      → IsReading remaining limit gap n m s []
      → AreOpened remaining limit gap first now streams
      → AreOpened remaining limit gap first (set now i m) (streams ++ s ∷ [])
  AreOpened-more first now [] zero n m s at here is h = first_one first now h here where
    first_one : (first now : List (Counted R)) → now ≡ first → slice_get now zero ≡ Some n
        → AreOpened remaining limit gap first (set now zero m) (s ∷ [])
    first_one [] [] e here = absurd (cc)
    first_one [] (b ∷ now) e here = absurd (cc)
    first_one (f ∷ first) [] e here = absurd (cc)
    first_one (f ∷ first) (b ∷ now) e here =
        let same : n ≡ f = cc in
        let others : now ≡ first = cc in
        (subst (λ (w : Counted R). IsReading remaining limit gap w m s []) same is, others)
  AreOpened-more first now [] (suc i) n m s at here is h = absurd (omega (arith, at))
  AreOpened-more [] now (a ∷ streams) i n m s at here is h = absurd h
  AreOpened-more (f ∷ first) [] (a ∷ streams) i n m s at here is h = absurd h
  AreOpened-more (f ∷ first) (b ∷ now) (a ∷ streams) zero n m s at here is h =
      absurd (omega (arith, at))
  AreOpened-more (f ∷ first) (b ∷ now) (a ∷ streams) (suc i) n m s at here is h =
      (h.0, AreOpened-more first now streams i n m s (omega (arith, at)) here is h.1)

  -- all are
  pub AreOpened-all : (first now : List (Counted R)) (streams : List (RowStream A))
      → length streams ≡ length first → AreOpened remaining limit gap first now streams
      → AreReading remaining limit gap first now streams (map (λ (s : RowStream A). []) streams)
  AreOpened-all [] now [] len h =
      subst (λ (l : List (Counted R)). AreReading {A = A} remaining limit gap [] l [] []) (sym h) tt
  AreOpened-all (f ∷ first) now [] len h = absurd (omega (arith, len))
  AreOpened-all [] now (a ∷ streams) len h = absurd h
  AreOpened-all (f ∷ first) [] (a ∷ streams) len h = absurd h
  AreOpened-all (f ∷ first) (b ∷ now) (a ∷ streams) len h =
      (h.0, AreOpened-all first now streams (omega (arith, len)) h.1)

  pub AreOpened-asked : (first now : List (Counted R)) (streams : List (RowStream A))
      → AreOpened remaining limit gap first now streams → AreAsked remaining limit first now
  AreOpened-asked first now [] h = subst (λ (l : List (Counted R)). AreAsked remaining limit first l)
      (sym h) (AreAsked-none remaining limit first)
  AreOpened-asked [] now (a ∷ streams) h = absurd h
  AreOpened-asked (f ∷ first) [] (a ∷ streams) h = absurd h
  AreOpened-asked (f ∷ first) (b ∷ now) (a ∷ streams) h =
      (reading_asked remaining limit gap f b a [] h.0, AreOpened-asked first now streams h.1)

  module _ (fault : FoldFault) (n m : Counted R) where
    same_place : (first now : List (Counted R)) (streams : List (RowStream A)) (i : ℕ)
        → i ≡ length streams → AreOpened remaining limit gap first now streams
        → slice_get first i ≡ slice_get now i
    same_place first now [] zero at h = ap (λ (l : List (Counted R)). slice_get l zero) (sym h)
    same_place first now [] (suc i) at h = absurd (omega (arith, at))
    same_place [] now (a ∷ streams) i at h = absurd h
    same_place (f ∷ first) [] (a ∷ streams) i at h = absurd h
    same_place (f ∷ first) (b ∷ now) (a ∷ streams) zero at h = absurd (omega (arith, at))
    same_place (f ∷ first) (b ∷ now) (a ∷ streams) (suc i) at h =
        same_place first now streams i (omega (arith, at)) h.1

    asked_place : (first now : List (Counted R)) (streams : List (RowStream A)) (i : ℕ)
        → i ≡ length streams → slice_get now i ≡ Some n → IsAsked remaining limit n m
        → AreOpened remaining limit gap first now streams
        → AreAsked remaining limit first (set now i m)
    asked_place first now [] zero at here calls h = by_first first now h here where
      by_first : (first now : List (Counted R)) → now ≡ first → slice_get now zero ≡ Some n
          → AreAsked remaining limit first (set now zero m)
      by_first first [] e here = absurd (cc)
      by_first [] (b ∷ now) e here = absurd (cc)
      by_first (f ∷ first) (b ∷ now) e here =
          let same : n ≡ f = cc in
          let others : now ≡ first = cc in (
            subst (λ (w : Counted R). IsAsked remaining limit w m) same calls,
            subst (λ (l : List (Counted R)). AreAsked remaining limit first l) (sym others)
                (AreAsked-none remaining limit first),
          )
    asked_place first now [] (suc i) at here calls h = absurd (omega (arith, at))
    asked_place [] now (a ∷ streams) i at here calls h = absurd h
    asked_place (f ∷ first) [] (a ∷ streams) i at here calls h = absurd h
    asked_place (f ∷ first) (b ∷ now) (a ∷ streams) zero at here calls h =
        absurd (omega (arith, at))
    asked_place (f ∷ first) (b ∷ now) (a ∷ streams) (suc i) at here calls h = (
      reading_asked remaining limit gap f b a [] h.0,
      asked_place first now streams i (omega (arith, at)) here calls h.1,
    )

    pub AreOpened-refused : (first now : List (Counted R)) (streams : List (RowStream A)) (i : ℕ)
        → i ≡ length streams → slice_get now i ≡ Some n
        → IsOneRefused remaining limit gap i fault n m
        → AreOpened remaining limit gap first now streams
        → IsRefused remaining limit gap fault first (set now i m)
    AreOpened-refused first now streams i at here is h =
        refuses remaining limit gap i fault n m first (set now i m) (same_place first now streams i at h ∙ here)
        (set_place n m now i here) is

    pub AreOpened-refused_asked : (first now : List (Counted R)) (streams : List (RowStream A))
        (i : ℕ) → i ≡ length streams → slice_get now i ≡ Some n
        → IsOneRefused remaining limit gap i fault n m
        → AreOpened remaining limit gap first now streams
        → AreAsked remaining limit first (set now i m)
    AreOpened-refused_asked first now streams i at here is h =
        asked_place first now streams i at here (one_asked remaining limit gap i fault n m is) h

    -- it was read, but isn't kept
    pub AreOpened-dropped : (first now : List (Counted R)) (streams : List (RowStream A))
        (i : ℕ) → i ≡ length streams → slice_get now i ≡ Some n → IsAsked remaining limit n m
        → AreOpened remaining limit gap first now streams
        → AreAsked remaining limit first (set now i m)
    AreOpened-dropped first now streams i at here is h = asked_place first now streams i at here is h

-- a fault of an input that isn't opened is none of the output
pub one_own : {R : Type 0} (remaining : R → Option (List ℕ)) (limit gap i : ℕ) (fault : FoldFault)
    (n m : Counted R) → IsOneRefused remaining limit gap i fault n m → IsOfInputs fault
one_own remaining limit gap i (Input index fault) n m h = tt
one_own remaining limit gap i (OtherGap index) n m h = tt
one_own remaining limit gap i Memory n m h = tt
one_own remaining limit gap i Write n m h = absurd h

pub memory_own : (fault : FoldFault) → fault ≡ Memory → IsOfInputs fault
memory_own fault e = subst IsOfInputs (sym e) tt

-- ---- gaps that are compared

pub same_gap : (own gap : ℕ) → false ≡ not (own == gap) → own ≡ gap
same_gap own gap e = grind (arith, nat_tests)

pub differing_gap : (own gap : ℕ) → true ≡ not (own == gap) → own ≡ gap → ⊥
differing_gap own gap e same = grind (arith, nat_tests)
