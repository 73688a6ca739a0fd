-- Lemmas on inputs, of which the first bytes are known.
use Rattle.aprs_runs.proofs.Common.{◌≡◌, ℕ, zero, suc, get_or, ◌<◌, Bool, true, false, List, [], ◌∷◌, ◌++◌, length, map, take, drop, Option, None, Some, Ok, Err, IfSome, inl, inr, refl, ap, sym, ◌∙◌, append_assoc, length-append, subst, arith, take-append_seam, bytes_eq-Decides, Consumes, BookValue, single, book_of_nothing, millis_of, witnesses, Row, Sound, witnessed, Gets, end_with, log_answers, receptions_of, answers-log_fault, LogFault, book_text, IsBookRows, gap_of, IsVersion, Version, One, Two, Three, BookFault, OfGot}
use Rattle.std.specs.Str.{bytes_eq}
use Rattle.aprs_transmissions.proofs.Coalescing.{books_stand, singles_stand}
use Rattle.aprs_io.specs.declared.input.InputEnd.{InputEnd}
use Rattle.aprs_io.specs.declared.input.InputEnd.TheVariants as ending
use Rattle.aprs_bookfile.specs.BookAnswers.{ReadsBook}
use Rattle.aprs_bookfile.proofs.BookRows.{rows_sound}
use Rattle.aprs_runs.specs.Gathered.{with_rows}
use Rattle.aprs_runs.specs.Head.{IsHead}
use Rattle.aprs_runs.specs.InputBook.{IsGapOf, ReadsInput}
use Rattle.aprs_runs.specs.Inputs.{GivesSet, has_book_mark}
use Rattle.aprs_runs.specs.Refused.{IsFaulty}
use Rattle.aprs_runs.proofs.Beginnings.{begins, book_begins, is_book, mark}
use Rattle.aprs_runs.proofs.RowsTold.{joined_heard}
use Rattle.aprs_runs.proofs.Sets.{log_of, set_book}
use Rattle.aprs_runs.specs.InputRows.{GivesRows, HoldsOfGot, ReadsLog, ReadsRows}
use Rattle.aprs_runs.specs.declared.fault.InputFault.{InputFault}
use Rattle.aprs_runs.specs.declared.fault.InputFault.TheVariants.{Log, Book, Memory, OtherGap, Narrower}

-- ---- which of both it is

-- the test of the code, which asks whether the bytes are those
is_mark_eq : (head : List ℕ) (b : Bool) → b ≡ bytes_eq head mark → b ≡ true → head ≡ mark
is_mark_eq head b e same = (bytes_eq-Decides head mark).0 (sym e ∙ same)

is_other_eq : (head : List ℕ) (b : Bool) → b ≡ bytes_eq head mark → b ≡ false → head ≡ mark → ⊥
is_other_eq head b e other same =
    let f : false ≡ true = sym other ∙ e ∙ (bytes_eq-Decides head mark).1 same in
    absurd cc

same_prefix : (a b x y : List ℕ) → length a ≡ length b → a ++ x ≡ b ++ y → a ≡ b
same_prefix a b x y size e =
    sym (take-append_seam a x) ∙ ap (λ l. take (length a) l) e ∙ ap (λ n. take n (b ++ y)) size
    ∙ take-append_seam b y

-- an LF after fewer than eight bytes
lf_at : (line more : List ℕ) → get_or ((line ++ 10 ∷ []) ++ more) (length line) 0 ≡ 10
lf_at [] more = refl
lf_at (x ∷ line) more = lf_at line more

mark_has_none : (i : ℕ) (rest : List ℕ) → i < 8 → get_or (mark ++ rest) i 0 ≡ 10 → ⊥
mark_has_none zero rest h e = omega (arith, e)
mark_has_none (suc zero) rest h e = omega (arith, e)
mark_has_none (suc (suc zero)) rest h e = omega (arith, e)
mark_has_none (suc (suc (suc zero))) rest h e = omega (arith, e)
mark_has_none (suc (suc (suc (suc zero)))) rest h e = omega (arith, e)
mark_has_none (suc (suc (suc (suc (suc zero))))) rest h e = omega (arith, e)
mark_has_none (suc (suc (suc (suc (suc (suc zero)))))) rest h e = omega (arith, e)
mark_has_none (suc (suc (suc (suc (suc (suc (suc zero))))))) rest h e = omega (arith, e)
mark_has_none (suc (suc (suc (suc (suc (suc (suc (suc i)))))))) rest h e = omega (arith, h)

not_mark : (head more rest : List ℕ) → IsHead head → (head ≡ mark → ⊥) → head ++ more ≡ mark ++ rest
    → ⊥
not_mark head more rest is other e = elim is [
  | inl size ↦ other (same_prefix head mark more rest size e)
  | inr lf ↦ mark_has_none (length lf.0) rest lf.1
      (ap (λ l. get_or l (length lf.0) 0) (sym e ∙ ap (λ l. l ++ more) lf.2) ∙ lf_at lf.0 more)
]

-- no text of an input that begins otherwise
is_log : (head more t rest : List ℕ) → IsHead head → (head ≡ mark → ⊥) → head ++ more ≡ t ++ rest
    → has_book_mark t ≡ false
is_log head more t rest whole other e = by (has_book_mark t) refl
  where
    by : (b : Bool) → has_book_mark t ≡ b → has_book_mark t ≡ false
    by false is = is
    by true is = absurd (not_mark head more (drop 8 t ++ rest) whole other (e
        ∙ ap (λ l. l ++ rest) (begins t is) ∙ append_assoc mark (drop 8 t) rest))

-- nor a shorter one
pub short_is_log : (t : List ℕ) → length t < 8 → has_book_mark t ≡ false
short_is_log t short = by (has_book_mark t) refl
  where
    by : (b : Bool) → has_book_mark t ≡ b → has_book_mark t ≡ false
    by false is = is
    by true is = absurd (omega (
      arith,
      short,
      ap length (begins t is),
      length-append mark (drop 8 t),
    ))

-- ---- a log

pub refused_log : (e : InputFault) (old new : BookValue) (t : List ℕ) (c : InputEnd)
    → has_book_mark t ≡ false → ReadsLog (Err e) old new t c → IsFaulty e t c
refused_log (Log f) old new t c is h = (is, answers-log_fault t c f h)
refused_log Memory old new t c is h = is
refused_log (Book f) old new t c is h = absurd h
refused_log OtherGap old new t c is h = absurd h
refused_log Narrower old new t c is h = absurd h

-- the receptions of what is read of a log join the book
pub gives_log : (asked own : ℕ) (old new was now : BookValue) (t : List ℕ) (c : InputEnd)
    → own ≡ asked → was ≡ old → new ≡ now → has_book_mark t ≡ false → ReadsLog (Ok tt) was now t c
    → GivesRows asked own old new t c
gives_log asked own old new was now t c its before after is h =
    let heard = receptions_of (log_answers t c).given in record {
      gap_is = λ log. its;
      rows = map single heard;
      new_is = after ∙ h.1 ∙ ap (λ (v : BookValue). with_rows v (map single heard)) before;
      set = heard;
      gives = inr (log_of t c h.0);
      stand = singles_stand heard;
    }

-- the book of what is read of a log into no others is its book
pub read_alone : (asked : ℕ) (b old new : BookValue) (t : List ℕ) (c : InputEnd)
    → has_book_mark t ≡ false → old ≡ record { gap = asked; rows = [] } → b ≡ new
    → ReadsLog (Ok tt) old new t c → ReadsInput asked (Ok b) t c
read_alone asked b old new t c is none same h =
    let heard = receptions_of (log_answers t c).given in
    let its = with_rows (record { gap = asked; rows = [] }) (map single heard) in
    let gives : GivesSet asked t c heard = inr (log_of t c h.0) in
    subst (λ (v : BookValue). ReadsInput asked (Ok v) t c)
    (sym (same ∙ h.1 ∙ ap (λ (v : BookValue). with_rows v (map single heard)) none)) (
      λ log. refl,
      (heard, gives),
      λ S set. set_book asked t c S heard its.rows set gives
          (joined_heard (millis_of asked) [] heard [] (book_of_nothing (millis_of asked))),
    )

-- what was got of one is read as a log's text
log_input : (known after : Option (List ℕ)) (limit : ℕ) (head : List ℕ) (P Q : List ℕ → InputEnd
    → Type 0) → IsHead head → (head ≡ mark → ⊥)
    → ((t : List ℕ) (c : InputEnd) → has_book_mark t ≡ false → P t c → Q t c)
    → IfSome known (λ input. HoldsOfGot limit (head ++ input) after P)
    → IfSome known (λ input. HoldsOfGot limit (head ++ input) after Q)
log_input None after limit head P Q size other follows h = tt
log_input (Some input) after limit head P Q size other follows h = (
  h.0,
  h.1,
  h.2,
  follows h.0 h.1 (is_log head input h.0 h.2.rest size other h.2.whole) h.3,
)

-- a short one has this fault, or none
pub short_fault : (t : List ℕ) (c : InputEnd) (fault : LogFault) (book : BookValue)
    → log_answers t c ≡ end_with (Some fault) → ReadsLog (Err (Log fault)) book book t c
short_fault t c fault book e = ap (λ a. a.fault) e

pub short_empty : (t : List ℕ) (c : InputEnd) (book : BookValue)
    → log_answers t c ≡ end_with None → ReadsLog (Ok tt) book book t c
short_empty t c book e = (
  ap (λ a. a.fault) e,
  ap (λ a. with_rows book (map single (receptions_of a.given))) (sym e),
)

-- ---- a book file

-- the gap of a version
gap_positive : (v : Version) → IsVersion v → 0 < gap_of v
gap_positive One is = omega arith
gap_positive Two is = omega arith
gap_positive (Three gap) is = is.0

-- it stands for the witnesses of its rows
gives_file : (own : ℕ) (v : Version) (rows : List Row) → own ≡ gap_of v → IsBookRows v rows
    → GivesSet own (book_text v rows) ending.End (witnesses rows)
gives_file own v rows same is = inl (record {
  version = v;
  rows = rows;
  gap_is = sym same;
  is_version = is.version;
  spelled = is.each;
  text_is = refl;
  whole = refl;
  book = let positive = gap_positive v is.version in
      witnessed (millis_of own) rows (omega (arith, positive, same))
      (subst (λ g. Sound (millis_of g) rows) (sym same) (rows_sound v rows is));
})

-- no log begins so
its_own : (asked own : ℕ) (v : Version) (rows : List Row) → IsGapOf asked (book_text v rows) own
its_own asked own v rows log = let x : true ≡ false = sym (book_begins v rows) ∙ log in cc

reads_book : (asked : ℕ) (b : BookValue) (v : Version) → b.gap ≡ gap_of v → IsBookRows v b.rows
    → ReadsInput asked (Ok b) (book_text v b.rows) ending.End
reads_book asked b v same is =
    let gives = gives_file b.gap v b.rows same is in
    let positive = gap_positive v is.version in (
      its_own asked b.gap v b.rows,
      (witnesses b.rows, gives),
      λ S set. set_book b.gap (book_text v b.rows) ending.End S (witnesses b.rows) b.rows set gives
          (witnessed (millis_of b.gap) b.rows (omega (arith, positive, same))
          (subst (λ g. Sound (millis_of g) b.rows) (sym same) (rows_sound v b.rows is))),
    )

-- the rows of a book stand for their witnesses
gives_book : (asked own : ℕ) (old new : BookValue) (rows : List Row) (v : Version) → own ≡ gap_of v
    → IsBookRows v rows → new ≡ with_rows old rows
    → GivesRows asked own old new (book_text v rows) ending.End
gives_book asked own old new rows v same is e = record {
  gap_is = its_own asked own v rows;
  rows = rows;
  new_is = e;
  set = witnesses rows;
  gives = gives_file own v rows same is;
  stand = books_stand (millis_of (gap_of v)) rows (rows_sound v rows is);
}

-- ---- what was got of a book file

module _ (limit : ℕ) (input : List ℕ) (after : Option (List ℕ)) where
  pub refused_book : (f : BookFault) → ReadsBook limit mark input after (Err f)
      → HoldsOfGot limit (mark ++ input) after (IsFaulty (Book f))
  refused_book f h =
      (mark ++ h.got, h.ending, h.gets, (is_book (mark ++ h.got) h.got refl, h.reads))

  pub read_book : (asked : ℕ) (b : BookValue) → ReadsBook limit mark input after (Ok b)
      → HoldsOfGot limit (mark ++ input) after (ReadsInput asked (Ok b))
  read_book asked b h =
      let v = h.reads.0 in
      let gets : Gets limit (mark ++ input) after (book_text v b.rows) ending.End =
      subst (λ c. Gets limit (mark ++ input) after (book_text v b.rows) c) h.reads.4
      (subst (λ t. Gets limit (mark ++ input) after t h.ending) h.reads.2 h.gets) in
      (book_text v b.rows, ending.End, gets, reads_book asked b v h.reads.1 h.reads.3)

  pub rows_read : (asked own : ℕ) (old new : BookValue) (rows : List Row) → new ≡ with_rows old rows
      → ReadsBook limit mark input after (Ok (record { gap = own; rows = rows }))
      → HoldsOfGot limit (mark ++ input) after (GivesRows asked own old new)
  rows_read asked own old new rows e h =
      let v = h.reads.0 in
      let gets : Gets limit (mark ++ input) after (book_text v rows) ending.End =
      subst (λ c. Gets limit (mark ++ input) after (book_text v rows) c) h.reads.4
      (subst (λ t. Gets limit (mark ++ input) after t h.ending) h.reads.2 h.gets) in (
        book_text v rows,
        ending.End,
        gets,
        gives_book asked own old new rows v h.reads.1 h.reads.3 e,
      )

-- where its bytes may not be known
pub rows_input : (asked own : ℕ) (old new : BookValue) (rows : List Row)
    (known after : Option (List ℕ)) (limit : ℕ) → new ≡ with_rows old rows
    → IfSome known (λ input. ReadsBook limit mark input after
    (Ok (record { gap = own; rows = rows })))
    → IfSome known (λ input. HoldsOfGot limit (mark ++ input) after
    (ReadsRows asked (Ok own) old new))
rows_input asked own old new rows None after limit e h = tt
rows_input asked own old new rows (Some input) after limit e h =
    rows_read limit input after asked own old new rows e h

pub book_input : (asked : ℕ) (known after : Option (List ℕ)) (limit : ℕ) (b : BookValue)
    → IfSome known (λ input. ReadsBook limit mark input after (Ok b))
    → IfSome known (λ input. HoldsOfGot limit (mark ++ input) after (ReadsInput asked (Ok b)))
book_input asked None after limit b h = tt
book_input asked (Some input) after limit b h = read_book limit input after asked b h

pub refused_input : (known after : Option (List ℕ)) (limit : ℕ) (f : BookFault)
    → IfSome known (λ input. ReadsBook limit mark input after (Err f))
    → IfSome known (λ input. HoldsOfGot limit (mark ++ input) after (IsFaulty (Book f)))
refused_input None after limit f h = tt
refused_input (Some input) after limit f h = refused_book limit input after f h

-- what was got is read so
pub of_got : (known after : Option (List ℕ)) (limit : ℕ) (t : List ℕ) (c : InputEnd) (P : List ℕ
    → InputEnd → Type 0) → IfSome known (λ input. Gets limit input after t c)
    → P t c → OfGot limit known after P
of_got None after limit t c P gets reads = tt
of_got (Some input) after limit t c P gets reads = (t, c, gets, reads)

-- and so is what was got after a head
of_head : (known mid after : Option (List ℕ)) (limit : ℕ) (head : List ℕ)
    (P : List ℕ → InputEnd → Type 0) → Consumes known mid head
    → IfSome mid (λ input. HoldsOfGot limit (head ++ input) after P) → OfGot limit known after P
of_head None mid after limit head P took h = tt
of_head (Some input) None after limit head P took h = absurd took
of_head (Some input) (Some rest) after limit head P took h =
    subst (λ l. HoldsOfGot limit l after P) (sym took) h

-- a head whose bytes were compared with the mark
module _ (known mid after : Option (List ℕ)) (limit : ℕ) {head shown : List ℕ} {test : Bool}
    (same : shown ≡ head) (tested : test ≡ bytes_eq shown mark)
    (took : Consumes known mid head) where
  -- it is the mark
  pub of_mark : (P : List ℕ → InputEnd → Type 0) → test ≡ true
      → IfSome mid (λ input. HoldsOfGot limit (mark ++ input) after P) → OfGot limit known after P
  of_mark P is h = of_head known mid after limit mark P
      (subst (λ l. Consumes known mid l) (sym same ∙ is_mark_eq shown test tested is) took) h

  -- or it isn't
  pub of_log : (P Q : List ℕ → InputEnd → Type 0) → test ≡ false → IsHead head
      → ((t : List ℕ) (c : InputEnd) → has_book_mark t ≡ false → P t c → Q t c)
      → IfSome mid (λ input. HoldsOfGot limit (head ++ input) after P) → OfGot limit known after Q
  of_log P Q is whole follows h = of_head known mid after limit head Q took
      (log_input mid after limit head P Q whole
      (λ e. is_other_eq shown test tested is (same ∙ e)) follows h)

-- nothing was asked of the input, where an allocation failed before
pub none_read : (known : Option (List ℕ)) (limit : ℕ) (Q : List ℕ → InputEnd → Type 0)
    → Q [] ending.Read → OfGot limit known known Q
none_read None limit Q h = tt
none_read (Some input) limit Q h =
    ([], ending.Read, record { rest = input; whole = refl; ends = (refl, omega arith) }, h)
