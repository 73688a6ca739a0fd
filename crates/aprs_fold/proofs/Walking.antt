-- The rows of several streams are taken and written, until none is left.
use Rattle.aprs_fold.proofs.Common.{◌≡◌, ◌<◌, ◌+◌, ◌∙◌, ℕ, Bool, true, false, cond, List, [], ◌∷◌, ◌++◌, append-nil, length, length-append, map, Option, Some, None, Ok, inl, inr, refl, sym, ap, subst, arith, All, Puts, Counted, Row, row_cmp, IsBelow, Ordered, Sound, IsSoundRow, IsGap, millis_of, in_left, ◌∈◌}
use Rattle.std.proofs.lemmas.List.Elements.{All-cons, All-nil}
use Rattle.aprs_io.specs.declared.outlet.Outlet.{Outlet}
use Rattle.aprs_log.specs.declared.moment_form.MomentForm.TheVariants.{Millis}
use Rattle.aprs_transmissions.specs.Sound.{IsFar}
use Rattle.aprs_transmissions.specs.Together.{book_together}
use Rattle.aprs_transmissions.proofs.Together.{book_is_sound}
use Rattle.aprs_bookfile.specs.Text.{IsBookRow}
use Rattle.aprs_bookfile.specs.declared.row_stream.RowStream.{RowStream}
use Rattle.aprs_bookfile.specs.declared.version.Version.TheVariants.{Three}
use Rattle.aprs_bookfile.proofs.BookRows.{rows_are}
use Rattle.aprs_fold.specs.Folding.{rows_put, IsFolding, NoneIsBefore, TakesNext}
use Rattle.aprs_fold.proofs.Steps.{begins, ends_as_book, takes_on}
use Rattle.aprs_fold.specs.Begun.{IsBegun}
use Rattle.aprs_fold.specs.Fold.{IsWhole, LeavesRows, PutsPart, PutsRows}
use Rattle.aprs_rows.specs.Fronts.{NotAfter}
use Rattle.aprs_fold.specs.Fronts.{row_at, IsFirst}
use Rattle.aprs_fold.specs.Range.{book_of_sources, rows_of_sources}
use Rattle.aprs_fold.specs.Inputs.{all_of, AreBooks, IsRefused}
use Rattle.aprs_fold.specs.Streams.{fronts_of, taken_at, AreReading, ChangesAt, GoesOn, IsOfInputs}
use Rattle.aprs_fold.specs.Taking.{lines_of_rows, AreSpelled, ClosesFor, FailsPut, FailsTaking, HasPut, IsThere}
use Rattle.aprs_fold.specs.declared.fault.FoldFault.{FoldFault}
use Rattle.aprs_fold.specs.declared.fault.FoldFault.TheVariants.{Input, OtherGap, Memory, Write}
use Rattle.aprs_fold.specs.declared.range.SourceRange.{SourceRange}
use Rattle.aprs_fold.proofs.Begun.{folded_all, folded_one, ChangesAt-none}
use Rattle.aprs_fold.proofs.Kept.{sound_within, within_both}
use Rattle.aprs_fold.proofs.Points.{Point}
use Rattle.aprs_fold.proofs.Puttings.{HasPut-fails, HasPut-none, HasPut-then}
use Rattle.aprs_fold.proofs.Reading.{AreReading-ended, AreReading-front, AreReading-in, AreReading-taken}

-- ---- rows that were written are a book's

front_ordered : {X : Type 0} (Q : X → X → Type 0) (xs ys : List X) → Ordered Q (xs ++ ys)
    → Ordered Q xs
front_ordered Q [] ys h = tt
front_ordered Q (x ∷ xs) ys h =
    ((λ y k. h.0 y (in_left y xs ys k)), front_ordered Q xs ys h.1)

pub front_sound : (gap : ℕ) (xs ys : List Row) → Sound gap (xs ++ ys) → Sound gap xs
front_sound gap xs ys h = record {
  ascending = front_ordered (IsBelow row_cmp) xs ys h.ascending;
  apart = front_ordered (IsFar gap) xs ys h.apart;
  each = λ x k. h.each x (in_left x xs ys k);
}

each_all : {X : Type 0} (P : X → Type 0) (xs : List X) → ((x : X) → x ∈ xs → P x) → All P xs
each_all P [] h = All-nil P
each_all P (x ∷ xs) h = All-cons P x xs (h x (inl refl)) (each_all P xs (λ y k. h y (inr k)))

some_of : (x : List ℕ) (xs : List (List ℕ)) → x ∈ xs → 0 < length xs
some_of x [] h = absurd h
some_of x (y ∷ ys) h = omega arith

pub sound_whole : (gap : ℕ) (rows : List Row) → IsGap gap → Sound (millis_of gap) rows
    → AreSpelled rows → IsWhole gap rows
sound_whole gap rows is_gap sound spelled = rows_are (Three gap) rows is_gap sound
    (each_all (IsBookRow Millis) rows (λ x h. let own = sound.each x h in
    spelled x h (some_of x.greatest.receiver x.receivers own.receiver)))

module _ (gap : ℕ) (is_gap : IsGap gap) where
  pub some_millis : 0 < millis_of gap
  some_millis = omega (arith, is_gap.0)

  pub read_sound : (read front written last : List Row)
      → IsFolding (millis_of gap) read front written last
      → Sound (millis_of gap) (written ++ last)
  read_sound read front written last h =
      subst (Sound (millis_of gap)) (sym (ends_as_book (millis_of gap) some_millis read front written
      last h)) (book_is_sound (millis_of gap) some_millis read
      (λ x k. h.each x ((h.members x).0 k)))

  pub folded_whole : (range : SourceRange) (read front written last : List Row)
      → IsFolding (millis_of gap) read front written last
      → AreSpelled (rows_of_sources range written) → IsWhole gap (rows_of_sources range written)
  folded_whole range read front written last h spelled =
      sound_whole gap (rows_of_sources range written) is_gap
      (sound_within (millis_of gap) range written
      (front_sound (millis_of gap) written last (read_sound read front written last h))) spelled

-- ---- a row in front is taken

module _ {R A : Type 0} (remaining : R → Option (List ℕ)) (limit gap : ℕ)
    (first now : List (Counted R)) (streams : List (RowStream A)) (taken : List (List Row))
    (reading : AreReading remaining limit gap first now streams taken) (i : ℕ)
    (f : IsFirst streams i) where
  -- none in front comes before it
  pub none_before : NoneIsBefore f.row (fronts_of streams)
  none_before y h =
      let at = AreReading-front remaining limit gap first now streams taken y reading h in
      subst (λ (o : Option Row). NotAfter o (Some y)) f.is
      (subst (λ (o : Option Row). NotAfter (row_at streams i) o) at.1 (f.least at.0))

  module _ (final last : List Row)
      (folding : IsFolding (millis_of gap) (all_of taken) (fronts_of streams) final last)
      (sound : IsSoundRow f.row) (closed : Bool) (new : List Row)
      (takes : TakesNext closed (millis_of gap) last f.row new) where
    takes_to : (ahead : List Row) → NoneIsBefore f.row ahead
        → IsFolding (millis_of gap) (all_of (taken_at streams i taken)) ahead
        (final ++ rows_put closed last) new
    takes_to ahead none = takes_on (millis_of gap) (all_of taken) (fronts_of streams) final last
        f.row closed (all_of (taken_at streams i taken)) ahead new folding
        (AreReading-in remaining limit gap i first now streams taken f.row f.is reading) sound
        (AreReading-taken remaining limit gap i first now streams taken f.row f.is reading)
        none takes

    -- the rows that are written are final, whatever stays in front
    pub takes_here : IsFolding (millis_of gap) (all_of (taken_at streams i taken))
        (fronts_of streams) (final ++ rows_put closed last) new
    takes_here = takes_to (fronts_of streams) none_before

    -- the stream is read on
    pub takes_there : (after : List (Counted R)) (others : List (RowStream A))
        → AreReading remaining limit gap first after others (taken_at streams i taken)
        → GoesOn i streams others
        → IsFolding (millis_of gap) (all_of (taken_at streams i taken)) (fronts_of others)
        (final ++ rows_put closed last) new
    takes_there after others onward goes = takes_to (fronts_of others) none_ahead where
      none_ahead : NoneIsBefore f.row (fronts_of others)
      none_ahead y h =
          let at = AreReading-front remaining limit gap first after others
          (taken_at streams i taken) y onward h in
          elim (goes at.0 f.row y f.is at.1) [
            | inl old ↦ subst (λ (o : Option Row). NotAfter o (Some y)) f.is
                (subst (λ (o : Option Row). NotAfter (row_at streams i) o) old (f.least at.0))
            | inr up ↦ up
          ]

-- ---- the walk

-- So far these rows were taken of each input, and these were written, where they are within the
-- range; the last one is still open.
pub record Walking {R W A : Type 0} (remaining : R → Option (List ℕ))
    (contents : W → Option (List ℕ)) (limit gap : ℕ) (range : SourceRange)
    (first now : List (Counted R)) (streams : List (RowStream A)) (begun out : Outlet W)
    (last : List Row) (count : ℕ) : Type 0 where
  pub taken : List (List Row)
  pub written : List Row
  pub reading : AreReading remaining limit gap first now streams taken
  pub folding : IsFolding (millis_of gap) (all_of taken) (fronts_of streams) written last
  pub put : HasPut contents begun out (rows_of_sources range written)
  pub counted : count ≡ length (rows_of_sources range written)

pub all_none : {A : Type 0} (streams : List (RowStream A))
    → all_of (map (λ (s : RowStream A). []) streams) ≡ []
all_none [] = refl
all_none (s ∷ streams) = all_none streams

pub len_there : (wrote : Bool) (last : List Row) → IsThere wrote last → length last ≡ cond wrote 1 0
len_there true last h = ap length h.1
len_there false last h = ap length h

pub count_put : (wrote : Bool) (count n m : ℕ) → count ≡ n → m ≡ cond wrote 1 0
    → cond wrote (count + 1) count ≡ n + m
count_put true count n m e f = omega (arith, e, f)
count_put false count n m e f = omega (arith, e, f)

pub parts_by : {W : Type 0} (contents : W → Option (List ℕ)) (fault : FoldFault)
    (rows last : List Row) (old new : Outlet W) → IsOfInputs fault
    → Puts {E = Unit {0}} contents (Ok tt) old new (lines_of_rows rows)
    → PutsPart contents fault rows last old new
parts_by contents (Input index fault) rows last old new is put = put
parts_by contents (OtherGap index) rows last old new is put = put
parts_by contents Memory rows last old new is put = put
parts_by contents Write rows last old new is put = absurd is

-- before the first row nothing was put
pub leaves_none : {R W : Type 0} {remaining : R → Option (List ℕ)}
    {contents : W → Option (List ℕ)} {limit gap : ℕ} {range : SourceRange}
    {first now : List (Counted R)} {o : Outlet W} → IsGap gap → (fault : FoldFault)
    → IsOfInputs fault → LeavesRows remaining contents limit gap range fault first now o o
leaves_none {contents = contents} {gap = gap} {range = range} {o = o} is_gap fault is = record {
  rows = [];
  last = [];
  begun = inl (refl, refl);
  rows_are = folded_whole gap is_gap range [] [] [] [] (begins (millis_of gap) [])
      (λ x h. absurd h);
  put = parts_by contents fault [] [] o o is (HasPut-none {contents = contents} o).puts;
}

-- the lines of more rows were put
put_more : {W : Type 0} (contents : W → Option (List ℕ)) (range : SourceRange)
    (begun out next : Outlet W) (rows more : List Row)
    → HasPut contents begun out (rows_of_sources range rows)
    → HasPut contents out next (rows_of_sources range more)
    → HasPut contents begun next (rows_of_sources range (rows ++ more))
put_more contents range begun out next rows more first then =
    subst (λ (l : List Row). HasPut contents begun next l) (sym (within_both range rows more))
    (HasPut-then begun out next (rows_of_sources range rows) (rows_of_sources range more) first then)

module _ {R W A : Type 0} {remaining : R → Option (List ℕ)} {contents : W → Option (List ℕ)}
    {limit gap : ℕ} {range : SourceRange} {first : List (Counted R)} {begun : Outlet W} where
  pub walk_begins : (now : List (Counted R)) (streams : List (RowStream A))
      → AreReading remaining limit gap first now streams (map (λ (s : RowStream A). []) streams)
      → Walking remaining contents limit gap range first now streams begun begun [] 0
  walk_begins now streams h = record {
    taken = map (λ (s : RowStream A). []) streams;
    written = [];
    reading = h;
    folding = subst (λ (l : List Row). IsFolding (millis_of gap) l (fronts_of streams) [] [])
        (sym (all_none streams)) (begins (millis_of gap) (fronts_of streams));
    put = HasPut-none begun;
    counted = refl;
  }

  -- at a point of the walk
  module _ (is_gap : IsGap gap) {now : List (Counted R)} {streams : List (RowStream A)}
      {out : Outlet W} {last : List Row} {count : ℕ}
      (w : Walking remaining contents limit gap range first now streams begun out last count) where
    pub point : Point remaining limit gap first now streams
    point = record { taken = w.taken; reading = w.reading }

    -- a fault of the inputs, where no row was taken any more
    here : IsBegun remaining limit gap first now w.written last
    here = inr (folded_all remaining limit gap first now streams w.taken w.written last w.reading
        w.folding)

    whole_here : IsWhole gap (rows_of_sources range w.written)
    whole_here = folded_whole gap is_gap range (all_of w.taken) (fronts_of streams) w.written last
        w.folding w.put.spelled

    -- so many lines with those of more rows
    count_more : (wrote : Bool) (more : List Row) → IsThere wrote (rows_of_sources range more)
        → cond wrote (count + 1) count ≡ length (rows_of_sources range (w.written ++ more))
    count_more wrote more there =
        count_put wrote count (length (rows_of_sources range w.written))
        (length (rows_of_sources range more)) w.counted
        (len_there wrote (rows_of_sources range more) there)
        ∙ sym (length-append (rows_of_sources range w.written) (rows_of_sources range more))
        ∙ ap length (sym (within_both range w.written more))

    pub leaves_here : (fault : FoldFault) → IsOfInputs fault
        → LeavesRows remaining contents limit gap range fault first now begun out
    leaves_here fault is = record {
      rows = w.written;
      last = last;
      begun = here;
      rows_are = whole_here;
      put = parts_by contents fault (rows_of_sources range w.written) (rows_of_sources range last)
          begun out is w.put.puts;
    }

    -- the output was refused within the last row's line
    pub leaves_write : (fault : FoldFault) (next : Outlet W)
        → FailsPut contents fault out next (rows_of_sources range last)
        → LeavesRows remaining contents limit gap range fault first now begun next
    leaves_write fault next fails = record {
      rows = w.written;
      last = last;
      begun = here;
      rows_are = whole_here;
      put = subst (λ (f : FoldFault). PutsPart contents f (rows_of_sources range w.written)
          (rows_of_sources range last) begun next) (sym fails.0)
          (HasPut-fails begun out next (rows_of_sources range w.written)
          (rows_of_sources range last) w.put fails.1);
    }

    module _ {i : ℕ} (f : IsFirst streams i) where
      module _ (closed : Bool) (next : Outlet W) (sound : IsSoundRow f.row)
          (put : HasPut contents out next (rows_of_sources range (rows_put closed last))) where
        put_here : HasPut contents begun next
            (rows_of_sources range (w.written ++ rows_put closed last))
        put_here = put_more contents range begun out next w.written (rows_put closed last) w.put put

        -- a fault of the inputs after it was taken
        pub leaves_taken : (new : List Row) → TakesNext closed (millis_of gap) last f.row new
            → (fault : FoldFault) → IsOfInputs fault → (others : List (Counted R))
            → ChangesAt i now others
            → LeavesRows remaining contents limit gap range fault first others begun next
        leaves_taken new takes fault is others changes =
            let folding = takes_here remaining limit gap first now streams w.taken w.reading i f
            w.written last w.folding sound closed new takes in
            record {
              rows = w.written ++ rows_put closed last;
              last = new;
              begun = inr (folded_one remaining limit gap i first now others streams w.taken f.row
                  (w.written ++ rows_put closed last) new changes f.is w.reading folding);
              rows_are = folded_whole gap is_gap range (all_of (taken_at streams i w.taken))
                  (fronts_of streams) (w.written ++ rows_put closed last) new folding
                  put_here.spelled;
              put = parts_by contents fault
                  (rows_of_sources range (w.written ++ rows_put closed last))
                  (rows_of_sources range new) begun next is put_here.puts;
            }

        -- the walk goes on
        pub walks_on : (new : List Row) (after : List (Counted R)) (others : List (RowStream A))
            (wrote : Bool) (n : ℕ) → TakesNext closed (millis_of gap) last f.row new
            → IsThere wrote (rows_of_sources range (rows_put closed last))
            → n ≡ cond wrote (count + 1) count
            → AreReading remaining limit gap first after others (taken_at streams i w.taken)
            → GoesOn i streams others
            → Walking remaining contents limit gap range first after others begun next new n
        walks_on new after others wrote n takes there counted reading goes = record {
          taken = taken_at streams i w.taken;
          written = w.written ++ rows_put closed last;
          reading = reading;
          folding = takes_there remaining limit gap first now streams w.taken w.reading i f
              w.written last w.folding sound closed new takes after others reading goes;
          put = put_here;
          counted = counted ∙ count_more wrote (rows_put closed last) there;
        }

      leaves_by : (fault : FoldFault) (next : Outlet W) → IsSoundRow f.row → (closed : Bool)
          → HasPut contents out next (rows_of_sources range (rows_put closed last))
          → ClosesFor closed (millis_of gap) last f.row → IsOfInputs fault
          → LeavesRows remaining contents limit gap range fault first now begun next
      leaves_by fault next sound true put closes is =
          leaves_taken true next sound put (f.row ∷ []) closes fault is now (ChangesAt-none i now)
      leaves_by fault next sound false put closes is = record {
        rows = w.written;
        last = last;
        begun = here;
        rows_are = whole_here;
        put = parts_by contents fault (rows_of_sources range w.written)
            (rows_of_sources range last) begun next is
            (subst (λ (l : List Row). Puts {E = Unit {0}} contents (Ok tt) begun next
            (lines_of_rows (rows_of_sources range l))) (append-nil w.written)
            (put_more contents range begun out next w.written [] w.put put).puts);
      }

      -- such a fault refuses no input
      pub taking_refuses : (fault : FoldFault) (next : Outlet W)
          → FailsTaking contents range (millis_of gap) fault out next last f.row
          → IsRefused remaining limit gap fault first now
      taking_refuses (Input index fault) next fails = absurd fails
      taking_refuses (OtherGap index) next fails = absurd fails
      taking_refuses Memory next fails = tt
      taking_refuses Write next fails = tt

      -- a fault as it was taken
      pub leaves_taking : (fault : FoldFault) (next : Outlet W) → IsSoundRow f.row
          → FailsTaking contents range (millis_of gap) fault out next last f.row
          → LeavesRows remaining contents limit gap range fault first now begun next
      leaves_taking Write next sound fails = leaves_write Write next (refl, fails)
      leaves_taking (Input index fault) next sound fails = absurd fails
      leaves_taking (OtherGap index) next sound fails = absurd fails
      leaves_taking Memory next sound fails =
          leaves_by Memory next sound fails.0 fails.1 fails.2 tt

    -- all rows were taken
    pub walk_ends : ((k : ℕ) → row_at streams k ≡ None)
        → (some : Bool) (next : Outlet W) (n : ℕ)
        → IsThere some (rows_of_sources range last)
        → HasPut contents out next (rows_of_sources range last)
        → n ≡ cond some (count + 1) count
        → (rows : List (List Row)) × AreBooks remaining limit gap first now rows
        × PutsRows remaining contents limit gap range first now n begun next
        (book_of_sources range gap rows).rows
    walk_ends none some next n known put counted =
        let both = put_more contents range begun out next w.written last w.put put in
        let book : w.written ++ last ≡ book_together (millis_of gap) (all_of w.taken) =
        ends_as_book (millis_of gap) (some_millis gap is_gap) (all_of w.taken)
        (fronts_of streams) w.written last w.folding in
        let whole : IsWhole gap (rows_of_sources range (w.written ++ last)) =
        sound_whole gap (rows_of_sources range (w.written ++ last)) is_gap
        (sound_within (millis_of gap) range (w.written ++ last)
        (read_sound gap is_gap (all_of w.taken) (fronts_of streams) w.written last w.folding))
        both.spelled in (
          w.taken,
          AreReading-ended remaining limit gap first now streams w.taken none w.reading,
          subst (λ (l : List Row). PutsRows remaining contents limit gap range first now n begun next
              (rows_of_sources range l)) book (record {
                counted = counted ∙ count_more some last known;
                puts = both.puts;
                book = record {
                  written = w.written;
                  last = last;
                  begun = here;
                  before = whole_here;
                  all = within_both range w.written last;
                  whole = whole;
                };
              }),
        )
