-- The text of a book is read, unless an allocation or a read fails.
use Rattle.aprs_bookfile.proofs.Common.{◌≡◌, ℕ, ◌+◌, ◌*◌, ◌/◌, ◌%◌, ◌^◌, ◌<◌, ◌≤◌, List, [], ◌∷◌, ◌++◌, length, map, Option, None, Some, IfSome, IfOk, IfErr, Result, Ok, Err, inl, inr, refl, sym, ap, ◌∙◌, subst, append-nil, length-append, arith, length-map, All-weaker, IfErr-weaker, Rose, Counted, most_input, Gets, IsWritable, date_text, time_text, Received, InputEnd, MomentForm, Seconds, Millis, BookValue, Holds, IsGap, millis_of, standard_gap, Row, last_moment, text_of_lines}
use Rattle.aprs_log.specs.Moment.{day_after, moment_text_in}
use Rattle.aprs_io.specs.declared.input.InputEnd.TheVariants as ending
use Rattle.aprs_transmissions.specs.Scaling.{scaled_rows, scaled_heard}
use Rattle.aprs_transmissions.proofs.Scaling.{scaled_book}
use Rattle.aprs_bookfile.specs.FirstFault.{FirstFault}
use Rattle.aprs_bookfile.specs.Law.{IsWrittenBack}
use Rattle.aprs_bookfile.specs.Reading.{IsAnswered}
use Rattle.aprs_bookfile.specs.Seconds.{AreWrittenToTheSecond, IsTextInSeconds, ReadsSeconds}
use Rattle.aprs_bookfile.specs.Text.{row_line, lines_of, book_of_version, book_text, IsBookRow, IsBookRows, written_version}
use Rattle.aprs_bookfile.specs.RowLines.{ended_by_lf}
use Rattle.aprs_bookfile.specs.BookAnswers.{AcceptsBook, IsBookOrMemory, ReadsBook}
use Rattle.aprs_bookfile.specs.Version.{form_of, gap_of}
use Rattle.aprs_bookfile.specs.declared.fault.BookCause.TheVariants as cause
use Rattle.aprs_bookfile.specs.declared.fault.BookFault.{BookFault}
use Rattle.aprs_bookfile.specs.declared.version.Version.{Version}
use Rattle.aprs_bookfile.specs.declared.version.Version.TheVariants.{One, Three}
use Rattle.aprs_bookfile.proofs.Asking.{Asks-rose}
use Rattle.aprs_bookfile.proofs.OneText.{one_text, one_version, same_book, cut_short}
use Rattle.aprs_bookfile.proofs.Versions.{standard_range}
use Rattle.aprs_bookfile.proofs.SameFaults.{memory_or_first}
use Rattle.aprs_transmissions.specs.Book.{BookOf}

-- each line has an LF
pub lines_few : (ls : List (List ℕ)) → length ls ≤ length (text_of_lines ls)
lines_few [] = omega arith
lines_few (l ∷ ls) =
    let whole : length (ended_by_lf l ++ text_of_lines ls)
    ≡ length l + 1 + length (text_of_lines ls) =
    simp (length-append, length-append) (omega arith) in
    omega (arith, lines_few ls, whole)

pub rows_few : (v : Version) (rows : List Row) → length rows ≤ length (book_text v rows)
rows_few v rows =
    let lines : length (lines_of v rows) ≡ length (map (row_line (form_of v)) rows) + 2 =
    simp length-append (omega arith) in
    omega (arith, lines_few (lines_of v rows), lines, length-map rows (row_line (form_of v)))

-- where rows were read, all of the input was got, and is their text in some version
pub record IsTextOf (book : BookValue) (text : List ℕ) : Type 0 where
  pub version : Version
  pub gap_is : book.gap ≡ gap_of version
  pub text_is : book_text version book.rows ≡ text
  pub is : IsBookRows version book.rows

pub text_of_read : (limit : ℕ) (head input : List ℕ) (after : Option (List ℕ)) (book : BookValue)
    → ReadsBook limit head input after (Ok book) → IsTextOf book (head ++ input)
text_of_read limit head input after book h =
    let gets = subst (Gets limit (head ++ input) after (head ++ h.got)) h.reads.4 h.gets in
    record {
      version = h.reads.0;
      gap_is = h.reads.1;
      text_is = sym h.reads.2 ∙ sym (gets.whole ∙ ap (λ l. (head ++ h.got) ++ l) gets.ends.0
          ∙ append-nil (head ++ h.got));
      is = h.reads.3;
    }

module _ (limit : ℕ) (head rest : List ℕ) (after : Option (List ℕ)) (v : Version) (rows : List Row)
    (small : limit ≤ most_input) (is : IsBookRows v rows)
    (text_is : head ++ rest ≡ book_text v rows) where
  -- what was read is the book of the rows
  pub same_read : (found : BookValue) → ReadsBook limit head rest after (Ok found)
      → found ≡ book_of_version v rows
  same_read found h =
      let t = text_of_read limit head rest after found h in
      let one = one_text t.version v found.rows rows t.is is (t.text_is ∙ text_is) in
      same_book found (book_of_version v rows) (t.gap_is ∙ ap gap_of one.0) one.1

  module _ (fits : length (head ++ rest) ≤ limit) where
    few : length rows < 2 ^ 64
    few = omega (arith, rows_few v rows, ap length text_is, small, fits)

    faultless : (e : InputEnd) (text : List ℕ) (f : BookFault)
        → Gets limit (head ++ rest) after text e → (f.cause ≡ cause.Read → ⊥) → FirstFault text e f
        → ⊥
    faultless ending.End text f gets read first =
        (cut_short v rows is few gets.rest ending.End f.cause text f (sym gets.whole
        ∙ text_is) refl first).1 refl gets.ends.0
    faultless ending.Read text f gets read first =
        read (cut_short v rows is few gets.rest ending.Read f.cause text f (sym gets.whole
        ∙ text_is) refl first).0
    faultless ending.TooLong text f gets read first =
        omega (arith, ap length gets.whole, length-append text gets.rest, gets.ends, fits)

    pub accepted : (r : Result BookValue BookFault) → ReadsBook limit head rest after r
        → IfErr r (λ f. f.cause ≡ cause.Read → ⊥) → IsBookOrMemory r (book_of_version v rows)
    accepted (Ok found) h read = same_read found h
    accepted (Err f) h read = elim (memory_or_first (head ++ h.got) h.ending f h.reads) [
      | inl m ↦ m.refused
      | inr first ↦ absurd (faultless h.ending (head ++ h.got) f h.gets read first)
    ]

-- the same, where the input's bytes may not be known, and a failed read has Q
pub accepts : (known after : Option (List ℕ)) (limit : ℕ) (head : List ℕ)
    (r : Result BookValue BookFault) (Q : Type 0) → limit ≤ most_input
    → IfSome known (λ input. ReadsBook limit head input after r)
    → IfErr r (λ f. f.cause ≡ cause.Read → Q)
    → IfSome known (λ input. (v : Version) (rows : List Row) → IsBookRows v rows
    → head ++ input ≡ book_text v rows → length (head ++ input) ≤ limit → (Q → ⊥)
    → IsBookOrMemory r (book_of_version v rows))
accepts None after limit head r Q small h read = tt
accepts (Some input) after limit head r Q small h read =
    λ v rows is text_is fits good. accepted limit head input after v rows small is text_is fits r h
    (IfErr-weaker r _ _ (λ f q e. good (q e)) read)

-- ---- texts of version 1

module _ (limit : ℕ) (head : List ℕ) (after : Option (List ℕ)) (small : limit ≤ most_input) where
  in_seconds : (input : List ℕ) (S : List Received) → IsTextInSeconds S (head ++ input)
      → (r : Result BookValue BookFault) → ReadsBook limit head input after r
      → IfOk r (λ book. (book.gap ≡ standard_gap) × Holds (map (scaled_heard 1000) S) book)
  in_seconds input S t (Err f) h = tt
  in_seconds input S t (Ok found) h =
      let rows = scaled_rows 1000 t.rows in
      let book : Holds (map (scaled_heard 1000) S) (book_of_version One rows) =
      scaled_book 1000 standard_gap (omega arith) S t.rows t.book in
      let is : IsBookRows One rows = record {
        version = standard_range;
        book = (map (scaled_heard 1000) S, book);
        each = t.each;
      } in
      let same = same_read limit head input after One rows small is t.text_is found h in (
        ap (λ (b : BookValue). b.gap) same,
        subst (Holds (map (scaled_heard 1000) S))
            (sym same) book,
      )

  pub reads_seconds : (known : Option (List ℕ)) (r : Result BookValue BookFault)
      → IfSome known (λ input. ReadsBook limit head input after r)
      → IfSome known (λ input. (S : List Received) → IsTextInSeconds S (head ++ input)
      → IfOk r (λ book. (book.gap ≡ standard_gap) × Holds (map (scaled_heard 1000) S) book))
  reads_seconds None r h = tt
  reads_seconds (Some input) r h = λ S t. in_seconds input S t r h

-- the same of what was answered
module _ {R : Type 0} (remaining : R → Option (List ℕ)) (limit : ℕ) (head : List ℕ)
    (answer : Result BookValue BookFault) (old new : Counted R) (small : limit ≤ most_input)
    (is : IsAnswered remaining limit head answer old new) where
  pub answer_accepts : IfSome (remaining old.device) (λ input. AcceptsBook limit (head ++ input)
      answer (Rose old.failed new.failed))
  answer_accepts = accepts _ _ limit head answer _ small is.reads (Asks-rose _ _ answer is.calls)

  pub answer_seconds : IfSome (remaining old.device)
      (λ input. ReadsSeconds (head ++ input) answer)
  answer_seconds = reads_seconds limit head _ small _ answer is.reads

-- a moment of whole seconds is written as its date and its time of the day
pub written_to_the_second : AreWrittenToTheSecond
unfolding moment_text_in
written_to_the_second = λ s h.
    let q : s * 1000 / 86400000 ≡ s / 86400 = omega arith in
    let r : s * 1000 % 86400000 ≡ s % 86400 * 1000 = omega arith in
    ap (λ n. date_text (day_after n) ++ 84 ∷ time_text Seconds (s * 1000 % 86400000)) q
    ∙ ap (λ n. date_text (day_after (s / 86400)) ++ 84 ∷ time_text Seconds n) r

-- ---- what was read is written in version 3

writable_more : (form : MomentForm) (m : ℕ) → IsWritable form m → IsWritable Millis m
writable_more form m h = record { in_range = h.in_range; whole = omega arith }

row_more : (form : MomentForm) (x : Row) → IsBookRow form x → IsBookRow Millis x
row_more form x h = record {
  spelled = record {
    first = writable_more form x.first h.spelled.first;
    last = writable_more form (last_moment x) h.spelled.last;
    some = h.spelled.some;
    receivers = h.spelled.receivers;
    receiver = h.spelled.receiver;
    bytes = h.spelled.bytes;
    few = h.spelled.few;
  };
  frame = h.frame;
}

rows_more : (v : Version) (gap : ℕ) (rows : List Row) → gap ≡ gap_of v → IsBookRows v rows
    → IsBookRows (Three gap) rows
rows_more v gap rows e h = record {
  version = subst IsGap (sym e) h.version;
  book = subst (λ g. (S : List Received) × BookOf (millis_of g) S rows) (sym e) h.book;
  each = All-weaker (IsBookRow (form_of v)) (IsBookRow Millis) (row_more (form_of v)) rows h.each;
}

pub written_back : (limit : ℕ) (head input : List ℕ) (after : Option (List ℕ)) (book : BookValue)
    → ReadsBook limit head input after (Ok book) → IsWrittenBack book (head ++ input)
written_back limit head input after book h =
    let t = text_of_read limit head input after book h in
    let more = rows_more t.version book.gap book.rows t.gap_is t.is in
    record {
      version = t.version;
      gap_is = t.gap_is;
      text_is = sym t.text_is;
      written = more;
      same = (
        λ e. sym (one_version (written_version book) t.version book.rows book.rows more.version
            t.is.version (e ∙ sym t.text_is)),
        λ e. ap (λ (v : Version). book_text v book.rows) (sym e) ∙ t.text_is,
      );
    }
