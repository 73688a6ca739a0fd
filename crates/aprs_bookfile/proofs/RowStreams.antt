-- How far the rows of a book's text were read of an input.
use Rattle.aprs_bookfile.proofs.Common.{◌≡◌, ℕ, ◌+◌, ◌<◌, ◌≤◌, ◌^◌, Bool, true, false, List, [], ◌∷◌, ◌++◌, length, drop, drop-append-add, Option, Result, Ok, Err, inl, inr, refl, sym, ap, ◌∙◌, subst, append-nil, append_assoc, length-append, arith, InputEnd, Row, Counted, Calls, Going, Calls-none, Calls-then, EndsIfKnown, last_of_ending}
use Rattle.std.specs.Io.KnownBytes.{Consumes}
use Rattle.std.specs.Prelude.{OnOk, IfErr}
use Rattle.aprs_bookfile.specs.Piece.{bytes_left}
use Rattle.aprs_bookfile.specs.BookAnswers.{IsAnswerFor}
use Rattle.aprs_bookfile.specs.Fault.{ending_cause}
use Rattle.aprs_bookfile.specs.FirstFault.{FirstFault}
use Rattle.aprs_bookfile.specs.TextFault.{most_ahead}
use Rattle.aprs_bookfile.specs.Reader.{AgreesWithEnding, IsFault, IsOfText, is_done, line_number, gap_in}
use Rattle.aprs_bookfile.specs.Reading.{Got, IsAnswered}
use Rattle.aprs_bookfile.specs.RowReader.{answer_read, row_at_stage, row_lent, rows_kept, HasReadText, HasReadTo, ReadsOne}
use Rattle.aprs_bookfile.specs.RowStream.{gap_of_stream, GetsOne, HasGot, HasGotText, HoldsText, HoldsTo, IsFaultyAfter, is_ended, StepsTo}
use Rattle.aprs_bookfile.specs.declared.fault.BookCause.TheVariants as cause
use Rattle.aprs_bookfile.specs.declared.fault.BookFault.{BookFault}
use Rattle.aprs_bookfile.specs.declared.stage.Stage.{Stage}
use Rattle.aprs_bookfile.specs.declared.stage.Stage.TheVariants.{Header, Rows, Done}
use Rattle.aprs_bookfile.specs.declared.row_reader.Keeping.{Keeping}
use Rattle.aprs_bookfile.specs.declared.row_reader.Keeping.TheVariants.{Each}
use Rattle.aprs_bookfile.specs.declared.row_reader.RowReader.{RowReader}
use Rattle.aprs_bookfile.specs.declared.row_stream.RowStream.{RowStream}
use Rattle.aprs_bookfile.proofs.Inputs.{Got-more, Got-none, Got-weaker, IsAnswered-end, IsAnswered-fault}
use Rattle.aprs_bookfile.proofs.LastLines.{done_refused}
use Rattle.aprs_bookfile.proofs.SameFaults.{first_is}
use Rattle.aprs_bookfile.proofs.Standing.{after_fault, cut_fault, fault_near, may_end-going}

-- a line is taken out of the bytes that were got
line_taken : (got t bytes part after : List ℕ) → got ≡ t ++ bytes → bytes ≡ part ++ 10 ∷ after
    → got ≡ ((t ++ part) ++ 10 ∷ []) ++ after
line_taken got t bytes part after e cuts =
    e ∙ ap (λ l. t ++ l) cuts ∙ sym (append_assoc t part (10 ∷ after))
    ∙ sym (append_assoc (t ++ part) (10 ∷ []) after)

-- what is left after it
pub rest_after : (bytes part after rest : List ℕ) (size : ℕ) → bytes ≡ part ++ 10 ∷ after
    → rest ≡ drop size bytes → size ≡ length part + 1 → rest ≡ after
rest_after bytes part after rest size cuts e is =
    e ∙ ap (λ n. drop n bytes) is ∙ ap (drop (length part + 1)) cuts
    ∙ drop-append-add part (10 ∷ after) 1

module _ {R A : Type 0} (remaining : R → Option (List ℕ)) (limit : ℕ) (head : List ℕ)
    (first now : Counted R) (old new : RowStream A) (rows : List Row) where
  -- a line more
  pub steps_line : (part after : List ℕ) (b : Bool) → bytes_left old.piece ≡ part ++ 10 ∷ after
      → bytes_left new.piece ≡ after → new.left ≡ old.left
      → ((t : List ℕ) → HasReadTo old.reader rows t
      → ReadsOne b new.reader rows ((t ++ part) ++ 10 ∷ []))
      → HasGot remaining limit head first now old rows
      → StepsTo remaining b limit head first now new rows
  steps_line part after true cuts rest same reads h =
      let held = h.got.stands in
      let one = reads held.0 held.2 in (
        one.0,
        one.1,
        one.2,
        record {
          got = record {
            got = h.got.got;
            stands = (
              (held.0 ++ part) ++ 10 ∷ [],
              line_taken (head ++ h.got.got) held.0 (bytes_left old.piece) part after held.1 cuts
                  ∙ ap (λ l. ((held.0 ++ part) ++ 10 ∷ []) ++ l) (sym rest),
              one.3,
            );
            took = h.got.took;
            size = ap (λ n. length (head ++ h.got.got) + n) same ∙ h.got.size;
          };
          calls = h.calls;
        },
      )
  steps_line part after false cuts rest same reads h =
      let held = h.got.stands in
      record {
        got = record {
          got = h.got.got;
          stands = (
            (held.0 ++ part) ++ 10 ∷ [],
            line_taken (head ++ h.got.got) held.0 (bytes_left old.piece) part after held.1 cuts
                ∙ ap (λ l. ((held.0 ++ part) ++ 10 ∷ []) ++ l) (sym rest),
            reads held.0 held.2,
          );
          took = h.got.took;
          size = ap (λ n. length (head ++ h.got.got) + n) same ∙ h.got.size;
        };
        calls = h.calls;
      }

  -- some bytes more
  pub steps_more : (next : Counted R) → new.left + length (bytes_left new.piece) ≡ old.left
      → ((t : List ℕ) → HasReadTo old.reader rows t
      → HasReadTo new.reader rows (t ++ bytes_left old.piece))
      → Consumes (remaining now.device) (remaining next.device) (bytes_left new.piece)
      → Calls Going now next → HasGot remaining limit head first now old rows
      → HasGot remaining limit head first next new rows
  steps_more next same reads took calls h = record {
    got = Got-more (HoldsTo old rows) head _ _ limit old.left h.got (HoldsTo new rows) _
        (bytes_left new.piece) new.left
        (λ g held. (
          held.0 ++ bytes_left old.piece,
          ap (λ l. l ++ bytes_left new.piece) held.1,
          reads held.0 held.2,
        )) took same;
    calls = Calls-then h.calls calls;
  }

-- ---- what was got

-- nothing but the head
pub begun : {R A : Type 0} (remaining : R → Option (List ℕ)) (limit : ℕ) (head : List ℕ)
    (first : Counted R) (stream : RowStream A) → HoldsTo stream [] head
    → length head + stream.left ≡ limit → HasGot remaining limit head first first stream []
begun remaining limit head first stream holds left = record {
  got = Got-none (HoldsTo stream []) head _ limit stream.left holds left;
  calls = Calls-none _;
}

module _ {R A : Type 0} (remaining : R → Option (List ℕ)) (limit : ℕ) (head : List ℕ)
    (first now : Counted R) (stream : RowStream A) (rows : List Row) where
  -- whatever is kept of the rows
  pub text_got : HasGot remaining limit head first now stream rows
      → HasGotText remaining limit head first now stream rows
  text_got h = record {
    got = Got-weaker (HoldsTo stream rows) (HoldsText stream rows) head _ _ limit stream.left
        (λ g held. (
          held.0,
          held.1,
          record { line = held.2.line; lines = held.2.lines; count = held.2.count },
        )) h.got;
    calls = h.calls;
  }

  -- where each row is kept, the rows are those
  pub got_kept : stream.reader.keeping ≡ Each → HasGot remaining limit head first now stream rows
      → HasGot remaining limit head first now stream stream.reader.rows
  got_kept each h =
      let held = h.got.stands in
      subst (HasGot remaining limit head first now stream)
      (sym (held.2.kept ∙ ap (λ (k : Keeping). rows_kept k rows) each)) h

  pub steps_kept : (b : Bool) → stream.reader.keeping ≡ Each
      → StepsTo remaining b limit head first now stream rows
      → HasGot remaining limit head first now stream stream.reader.rows
  steps_kept false each h = got_kept each h
  steps_kept true each h =
      let held = h.3.got.stands in
      subst (HasGot remaining limit head first now stream)
      (sym (held.2.kept ∙ ap (λ (k : Keeping). rows_kept k (rows ++ h.0 ∷ [])) each)) h.3

-- the rows are taken out
pub rows_taken : {R A : Type 0} (remaining : R → Option (List ℕ)) (limit : ℕ) (head : List ℕ)
    (first now : Counted R) (old new : RowStream A) (rows : List Row)
    → ((rows : List Row) (got : List ℕ) → HoldsText old rows got → HoldsText new rows got)
    → new.left ≡ old.left → HasGot remaining limit head first now old rows
    → HasGotText remaining limit head first now new rows
rows_taken remaining limit head first now old new rows text left h =
    let t = text_got remaining limit head first now old rows h in
    record {
      got = subst (λ n. Got (HoldsText new rows) head (remaining first.device)
          (remaining now.device) limit n) (sym left)
          (Got-weaker (HoldsText old rows) (HoldsText new rows) head _ _ limit old.left (text rows)
          t.got);
      calls = t.calls;
    }

-- ---- faults

module _ {R A : Type 0} (remaining : R → Option (List ℕ)) (now : Counted R) (old : RowStream A)
    (fault : BookFault) (of : IsOfText fault.cause) (few : length (bytes_left old.piece) ≤ most_ahead)
  where
    faulty : ((rows : List Row) (t : List ℕ) → HasReadTo old.reader rows t
        → IsFault most_ahead fault (t ++ bytes_left old.piece))
        → IsFaultyAfter remaining fault now now old
    faulty is = λ limit head first rows h.
        IsAnswered-fault remaining limit head first now old.left h.calls fault of
        (Got-weaker (HoldsTo old rows) (IsFault most_ahead fault) head _ _ limit old.left
        (λ g held. subst (IsFault most_ahead fault) (sym held.1) (is rows held.0 held.2)) h.got)

    -- a line is wrong
    pub faulty_line : (part after : List ℕ) → bytes_left old.piece ≡ part ++ 10 ∷ after
        → ((rows : List Row) (t more : List ℕ) → HasReadTo old.reader rows t
        → IsFault (length part + (length more + 1)) fault ((t ++ part) ++ 10 ∷ more))
        → IsFaultyAfter remaining fault now now old
    faulty_line part after cuts is = faulty (λ rows t h.
        let n = ap length cuts ∙ length-append part (10 ∷ after) in
        subst (IsFault most_ahead fault)
        (append_assoc t part (10 ∷ after) ∙ ap (λ l. t ++ l) (sym cuts))
        (fault_near (length part + (length after + 1)) most_ahead fault
        ((t ++ part) ++ 10 ∷ after) (omega (arith, few, n)) (is rows t after h)))

    -- the bytes aren't kept
    pub faulty_kept : ((rows : List Row) (t more : List ℕ) → HasReadTo old.reader rows t
        → IsFault (length (bytes_left old.piece) + length more) fault
        ((t ++ bytes_left old.piece) ++ more))
        → IsFaultyAfter remaining fault now now old
    faulty_kept is = faulty (λ rows t h.
        subst (IsFault most_ahead fault) (append-nil (t ++ bytes_left old.piece))
        (fault_near (length (bytes_left old.piece) + 0) most_ahead fault _ (omega (arith, few))
        (is rows t [] h)))

-- the input ends where a line may not
pub faulty_end : {R A : Type 0} (remaining : R → Option (List ℕ)) (now next : Counted R)
    (old : RowStream A) (reader : RowReader A) (e : InputEnd)
    → is_done reader.stage ≡ false
    → ((rows : List Row) (t : List ℕ) → HasReadTo old.reader rows t
    → HasReadTo reader rows (t ++ bytes_left old.piece))
    → EndsIfKnown e old.left (remaining now.device) (remaining next.device)
    → Calls (last_of_ending e) now next
    → IsFaultyAfter remaining
    (record { line = line_number reader.stage reader.count; cause = ending_cause e }) now next old
faulty_end remaining now next old reader e going reads ends calls = λ limit head first rows h.
    IsAnswered-end remaining limit head first now old.left h.calls (HasReadTo reader rows) next e
    (Err (record { line = line_number reader.stage reader.count; cause = ending_cause e }))
    (Got-weaker (HoldsTo old rows) (HasReadTo reader rows) head _ _ limit old.left
    (λ g held. subst (HasReadTo reader rows) (sym held.1) (reads rows held.0 held.2)) h.got)
    refl ends calls
    (λ t k. first_is _ _ _ (subst (λ n. FirstFault t e (record {
      line = line_number reader.stage n;
      cause = ending_cause e;
    })) (sym k.count)
    (cut_fault reader.stage rows k.line t e (may_end-going reader.stage e going) k.lines)))

-- ---- after the last line

got_alone : {A : Type 0} (old : RowStream A) (rows : List Row) (g : List ℕ)
    → bytes_left old.piece ≡ [] → HoldsText old rows g → HasReadText old.reader rows g
got_alone old rows g none held =
    subst (HasReadText old.reader rows)
    (sym (held.1 ∙ ap (λ l. held.0 ++ l) none ∙ append-nil held.0)) held.2

-- bytes are there after it
pub after_is : {A : Type 0} (reader : RowReader A) (rows : List Row) (t bytes : List ℕ)
    → is_done reader.stage ≡ true → 0 < length bytes → length bytes ≤ most_ahead
    → HasReadText reader rows t
    → IsFault most_ahead
    (record { line = line_number reader.stage reader.count; cause = cause.After }) (t ++ bytes)
after_is reader rows t bytes done some few h =
    subst (λ n. IsFault most_ahead (record { line = line_number reader.stage n; cause = cause.After })
    (t ++ bytes)) (sym h.count)
    (fault_near (length bytes + 0) most_ahead _ (t ++ bytes) (omega (arith, few))
    (subst (IsFault (length bytes + 0) _) (append-nil (t ++ bytes))
    (after_fault reader.stage rows h.line t bytes [] done some h.lines)))

-- an allocation fails in the last line
pub last_refused : {R A : Type 0} (remaining : R → Option (List ℕ)) (limit : ℕ) (head : List ℕ)
    (first now : Counted R) (stream : RowStream A) (rows : List Row) (f : BookFault)
    → f ≡ record { line = stream.reader.count + 2; cause = cause.Memory } → is_ended stream ≡ true
    → bytes_left stream.piece ≡ [] → stream.reader.count < 2 ^ 64
    → HasGotText remaining limit head first now stream rows
    → IsAnswered remaining limit head (Err f) first now
last_refused remaining limit head first now stream rows f is done none few h =
    IsAnswered-fault remaining limit head first now stream.left h.calls f
    (subst (λ (x : BookFault). IsOfText x.cause) (sym is) ((λ e. cc), (λ e. cc)))
    (Got-weaker (HoldsText stream rows) (IsFault most_ahead f) head _ _ limit stream.left
    (λ g held. let k = got_alone stream rows g none held in
    subst (λ (x : BookFault). IsFault most_ahead x g) (sym is)
    (subst (λ n. IsFault most_ahead (record { line = n + 2; cause = cause.Memory }) g) (sym k.count)
    (fault_near 1 most_ahead _ g (omega arith) (done_refused stream.reader.stage rows
    k.line g done (omega (arith, few, k.count)) k.lines)))) h.got)

-- What is answered of all that was got is this.
abbrev pub EndsAs : {R A : Type 0} → (R → Option (List ℕ)) → Counted R → Counted R → RowStream A
    → Result (Unit {0}) BookFault → Type 0
EndsAs {R = R} remaining now next old r =
    (limit : ℕ) (head : List ℕ) (first : Counted R) (rows : List Row)
    → HasGotText remaining limit head first now old rows
    → IsAnswered remaining limit head (answer_read r (gap_of_stream old) rows) first next

pub ends_ok : {R A : Type 0} (remaining : R → Option (List ℕ)) (now next : Counted R)
    (old : RowStream A) (r : Result (Unit {0}) BookFault) → EndsAs remaining now next old r
    → OnOk r (EndsAs remaining now next old (Ok tt))
ends_ok remaining now next old (Ok u) ends = ends
ends_ok remaining now next old (Err f) ends = tt

pub ends_faulty : {R A : Type 0} (remaining : R → Option (List ℕ)) (now next : Counted R)
    (old : RowStream A) (r : Result (Unit {0}) BookFault) → EndsAs remaining now next old r
    → IfErr r (λ f. EndsAs remaining now next old (Err f))
ends_faulty remaining now next old (Ok u) ends = tt
ends_faulty remaining now next old (Err f) ends = ends

module _ {R A : Type 0} (remaining : R → Option (List ℕ)) (now : Counted R) (old : RowStream A)
  where
    -- bytes are here
    pub ends_rest : (f : BookFault) → (f.cause ≡ cause.After)
        × ((rows : List Row) (t : List ℕ) → HasReadText old.reader rows t
        → IsFault most_ahead f (t ++ bytes_left old.piece)) → EndsAs remaining now now old (Err f)
    ends_rest f is = λ limit head first rows h.
        IsAnswered-fault remaining limit head first now old.left h.calls f
        (subst IsOfText (sym is.0) ((λ e. cc), (λ e. cc)))
        (Got-weaker (HoldsText old rows) (IsFault most_ahead f) head _ _ limit old.left
        (λ g held. subst (IsFault most_ahead f) (sym held.1) (is.1 rows held.0 held.2)) h.got)

    -- bytes come
    pub ends_more : is_ended old ≡ true → (next : Counted R) (bytes : List ℕ) (less : ℕ)
        → bytes_left old.piece ≡ [] → 0 < length bytes → length bytes ≤ most_ahead
        → less + length bytes ≡ old.left
        → Consumes (remaining now.device) (remaining next.device) bytes → Calls Going now next
        → EndsAs remaining now next old
        (Err (record { line = line_number old.reader.stage old.reader.count; cause = cause.After }))
    ends_more done next bytes less none some few same took calls = λ limit head first rows h.
        let f : BookFault = record {
          line = line_number old.reader.stage old.reader.count;
          cause = cause.After;
        } in
        IsAnswered-fault remaining limit head first next less (Calls-then h.calls calls) f
        ((λ e. cc), (λ e. cc))
        (Got-more (HoldsText old rows) head _ _ limit old.left h.got (IsFault most_ahead f) _ bytes
        less
        (λ g held. after_is old.reader rows g bytes done some few (got_alone old rows g none held))
        took same)

    -- the input ends
    pub ends_here : (next : Counted R) (e : InputEnd) → bytes_left old.piece ≡ []
        → EndsIfKnown e old.left (remaining now.device) (remaining next.device)
        → Calls (last_of_ending e) now next
        → (r : Result (Unit {0}) BookFault) → AgreesWithEnding e r
        → ((rows : List Row) (t : List ℕ) → HasReadText old.reader rows t
        → IsAnswerFor (answer_read r (gap_of_stream old) rows) t e) → EndsAs remaining now next old r
    ends_here next e none ends calls r agrees reads = λ limit head first rows h.
        IsAnswered-end remaining limit head first now old.left h.calls (HasReadText old.reader rows)
        next e (answer_read r (gap_of_stream old) rows)
        (Got-weaker (HoldsText old rows) (HasReadText old.reader rows) head _ _ limit old.left
        (λ g held. got_alone old rows g none held) h.got)
        (agrees_read r rows agrees) ends calls (λ t k. reads rows t k) where
          agrees_read : (r : Result (Unit {0}) BookFault) (rows : List Row) → AgreesWithEnding e r
              → AgreesWithEnding e (answer_read r (gap_of_stream old) rows)
          agrees_read (Ok u) rows is = is
          agrees_read (Err f) rows is = is

-- ---- the end and the steps together

-- after the last line none is in front
pub gets_none : {R A : Type 0} (remaining : R → Option (List ℕ)) (limit : ℕ) (head : List ℕ)
    (first next : Counted R) (old new : RowStream A) (rows : List Row)
    → is_ended old ≡ true → new.reader ≡ old.reader
    → IsAnswered remaining limit head (Ok (record { gap = gap_of_stream old; rows = rows })) first
    next → GetsOne remaining limit head first next new rows
gets_none remaining limit head first next old new rows done same answered =
    inr (
      ap row_lent same ∙ none_lent old.reader.stage old.reader.rows done,
      ap (λ (r : RowReader _). is_done r.stage) same ∙ done,
      subst (λ n. IsAnswered remaining limit head (Ok (record { gap = n; rows = rows })) first next)
          (sym (ap (λ (r : RowReader _). gap_in r.stage) same)) answered,
    ) where
      none_lent : (stage : Stage) (rows : List Row) → is_done stage ≡ true
          → row_at_stage stage rows ≡ []
      none_lent Header rows is = refl
      none_lent (Rows v) rows is = absurd (let f : false ≡ true = is in cc)
      none_lent (Done v) rows is = refl

-- a row more is in front
pub gets_row : {R A : Type 0} (remaining : R → Option (List ℕ)) (limit : ℕ) (head : List ℕ)
    (first now : Counted R) (stream : RowStream A) (rows : List Row)
    → StepsTo remaining true limit head first now stream rows
    → GetsOne remaining limit head first now stream rows
gets_row remaining limit head first now stream rows h = inl h

-- with the same reader it stays at the end
pub not_ended : {A : Type 0} (old new : RowStream A) → is_ended old ≡ true
    → new.reader ≡ old.reader → is_ended new ≡ false → ⊥
not_ended old new done same e =
    let f : true ≡ false = sym (ap (λ (r : RowReader _). is_done r.stage) same ∙ done) ∙ e in cc
