-- The rows of several streams are taken, and those are put that are new to the first one, until
-- none is left.
use Rattle.aprs_fold.proofs.Common.{◌≡◌, ◌∙◌, ◌+◌, ℕ, zero, suc, Bool, true, false, cond, List, [], ◌∷◌, ◌++◌, append-nil, append_assoc, length, length-append, map, Option, Some, None, inl, inr, refl, sym, ap, subst, upto, up_to_itself, in_either, in_left, in_right, Counted, Row, row_cmp, row_total, IsBelow, IsUpTo, IsSoundRow, Sound, IsGap, millis_of, ◌∈◌}
use Rattle.std.proofs.lemmas.List.Elements.{filter-append}
use Rattle.aprs_io.specs.declared.outlet.Outlet.{Outlet}
use Rattle.aprs_transmissions.specs.Together.{book_together}
use Rattle.aprs_bookfile.specs.declared.row_stream.RowStream.{RowStream}
use Rattle.aprs_fold.specs.Folding.{rows_put, IsFolding, TakesNext}
use Rattle.aprs_fold.specs.NewRows.{last_of, new_rows}
use Rattle.aprs_fold.specs.LastRow.{row_taken_at}
use Rattle.aprs_fold.proofs.Beside.{last_decides, new_same}
use Rattle.aprs_fold.proofs.NewRows.{is_new, new_are_sound}
use Rattle.aprs_fold.proofs.Steps.{begins, ends_as_book}
use Rattle.aprs_fold.specs.Fold.{IsWhole}
use Rattle.aprs_fold.specs.Fronts.{row_at, IsFirst}
use Rattle.aprs_fold.specs.Inputs.{all_of, AreBooks, IsRefused}
use Rattle.aprs_fold.specs.Known.{FailsNew, IsAhead, IsNewing, PutsNew, PutsNews}
use Rattle.aprs_fold.specs.News.{first_of, news_of_sources, LeavesNews}
use Rattle.aprs_fold.specs.Range.{rows_of_sources}
use Rattle.aprs_fold.specs.Streams.{fronts_of, taken_at, AreReading, GoesOn, IsOfInputs}
use Rattle.aprs_fold.specs.Taking.{HasPut}
use Rattle.aprs_fold.specs.declared.fault.FoldFault.{FoldFault}
use Rattle.aprs_fold.specs.declared.range.SourceRange.{SourceRange}
use Rattle.aprs_fold.proofs.Kept.{in_within, sound_within, within_both}
use Rattle.aprs_fold.proofs.Lacking.{across, below_upto, front_some, sound_front}
use Rattle.aprs_fold.proofs.Points.{by_memory, by_write, Point}
use Rattle.aprs_fold.proofs.Puttings.{HasPut-fails, HasPut-none, HasPut-then}
use Rattle.aprs_fold.proofs.Reading.{AreReading-ended, AreReading-front, AreReading-in, AreReading-known}
use Rattle.aprs_fold.proofs.Streamed.{memory_own}
use Rattle.aprs_fold.proofs.Walking.{all_none, count_put, front_sound, len_there, none_before, parts_by, read_sound, some_millis, sound_whole, takes_here, takes_there}

sound_none : (gap : ℕ) → Sound gap []
sound_none gap = record { ascending = tt; apart = tt; each = λ x h. absurd h }

pub none_whole : (gap : ℕ) → IsGap gap → IsWhole gap []
none_whole gap is_gap =
    sound_whole gap [] is_gap (sound_none (millis_of gap)) (λ x h. absurd h)

-- before the first row nothing was put
pub leaves_begun : {W : Type 0} (contents : W → Option (List ℕ)) (gap : ℕ) (o : Outlet W)
    → IsGap gap → (fault : FoldFault) → IsOfInputs fault → LeavesNews contents gap fault o o
leaves_begun contents gap o is_gap fault is =
    let none = HasPut-none {contents = contents} o in (
      [],
      [],
      none_whole gap is_gap,
      parts_by contents fault [] [] o o is none.puts,
    )

-- ---- the rows of the first input

-- whether it is the number of the first input
abbrev is_first : ℕ → Bool
is_first zero = true
is_first (suc index) = false

-- the row that is taken of it, if one is
abbrev taken_of : Bool → Row → List Row
taken_of true x = x ∷ []
taken_of false x = []

first_in : (taken : List (List Row)) (y : Row) → y ∈ first_of taken → y ∈ all_of taken
first_in [] y h = absurd h
first_in (t ∷ taken) y h = in_left y t (all_of taken) h

first_none : {A : Type 0} (streams : List (RowStream A))
    → first_of (map (λ (s : RowStream A). []) streams) ≡ []
first_none [] = refl
first_none (s ∷ streams) = refl

module _ {R A : Type 0} (remaining : R → Option (List ℕ)) (limit gap : ℕ) where
  first_taken : (i : ℕ) (first now : List (Counted R)) (streams : List (RowStream A))
      (taken : List (List Row)) (x : Row) → row_at streams i ≡ Some x
      → AreReading remaining limit gap first now streams taken
      → first_of (taken_at streams i taken) ≡ first_of taken ++ taken_of (is_first i) x
  first_taken i [] [] [] [] x is h = absurd (cc)
  first_taken i [] [] [] (t ∷ taken) x is h = absurd h
  first_taken i [] [] (s ∷ streams) taken x is h = absurd h
  first_taken i [] (n ∷ now) streams taken x is h = absurd h
  first_taken i (f ∷ first) [] streams taken x is h = absurd h
  first_taken i (f ∷ first) (n ∷ now) [] taken x is h = absurd h
  first_taken i (f ∷ first) (n ∷ now) (s ∷ streams) [] x is h = absurd h
  first_taken zero (f ∷ first) (n ∷ now) (s ∷ streams) (t ∷ taken) x is h =
      ap (λ (l : List Row). t ++ l) (front_some s x is).0
  first_taken (suc i) (f ∷ first) (n ∷ now) (s ∷ streams) (t ∷ taken) x is h =
      sym (append-nil t)

  first_sound : (i : ℕ) (first now : List (Counted R)) (streams : List (RowStream A))
      (taken : List (List Row)) → AreReading remaining limit gap first now streams taken
      → Sound (millis_of gap) (first_of taken)
      → Sound (millis_of gap) (first_of (taken_at streams i taken))
  first_sound i [] [] [] [] h sound = sound
  first_sound i [] [] [] (t ∷ taken) h sound = absurd h
  first_sound i [] [] (s ∷ streams) taken h sound = absurd h
  first_sound i [] (n ∷ now) streams taken h sound = absurd h
  first_sound i (f ∷ first) [] streams taken h sound = absurd h
  first_sound i (f ∷ first) (n ∷ now) [] taken h sound = absurd h
  first_sound i (f ∷ first) (n ∷ now) (s ∷ streams) [] h sound = absurd h
  first_sound zero (f ∷ first) (n ∷ now) (s ∷ streams) (t ∷ taken) h sound =
      sound_front remaining limit gap f n s t sound h.0
  first_sound (suc i) (f ∷ first) (n ∷ now) (s ∷ streams) (t ∷ taken) h sound = sound

-- ---- the walk

put_last : (closed : Bool) (last : List Row) (z : Row) → z ∈ rows_put closed last → z ∈ last
put_last true last z h = h
put_last false last z h = absurd h

module _ {R W A : Type 0} {remaining : R → Option (List ℕ)} {contents : W → Option (List ℕ)}
    {limit gap : ℕ} {range : SourceRange} {first : List (Counted R)} {begun : Outlet W} where
  pub news_begins : (now : List (Counted R)) (streams : List (RowStream A))
      → AreReading remaining limit gap first now streams (map (λ (s : RowStream A). []) streams)
      → IsNewing remaining contents limit gap range first now streams begun begun [] 0
  news_begins now streams h = record {
    taken = map (λ (s : RowStream A). []) streams;
    final = [];
    reading = h;
    folding = subst (λ (l : List Row). IsFolding (millis_of gap) l (fronts_of streams) [] [])
        (sym (all_none streams)) (begins (millis_of gap) (fronts_of streams));
    sound = subst (Sound (millis_of gap)) (sym (first_none streams)) (sound_none (millis_of gap));
    written = [];
    are_new = λ rest sound ahead. refl;
    put = HasPut-none begun;
    counted = refl;
  }

  -- at a point of the walk
  module _ (is_gap : IsGap gap) {now : List (Counted R)} {streams : List (RowStream A)}
      {out : Outlet W} {last : List Row} {count : ℕ}
      (w : IsNewing remaining contents limit gap range first now streams begun out last count)
    where
      pub point : Point remaining limit gap first now streams
      point = record { taken = w.taken; reading = w.reading }

      abbrev old : List Row
      old = first_of w.taken

      -- the row that was taken last of the first input
      abbrev known : List Row
      known = row_taken_at streams zero

      all_sound : Sound (millis_of gap) (w.final ++ last)
      all_sound =
          read_sound gap is_gap (all_of w.taken) (fronts_of streams) w.final last w.folding

      final_sound : Sound (millis_of gap) w.final
      final_sound = front_sound (millis_of gap) w.final last all_sound

      closed_sound : (closed : Bool) → Sound (millis_of gap) (w.final ++ rows_put closed last)
      closed_sound true = all_sound
      closed_sound false = subst (Sound (millis_of gap)) (sym (append-nil w.final)) final_sound

      old_sound : Sound (millis_of gap) (old ++ [])
      old_sound = subst (Sound (millis_of gap)) (sym (append-nil old)) w.sound

      -- the kept row says which of the rows that are put next are new
      new_with : (rows rest : List Row) → Sound (millis_of gap) (old ++ rest)
          → ((y : Row) → y ∈ rest → IsAhead (fronts_of streams) y)
          → ((z : Row) → z ∈ rows → z ∈ last)
          → ((z y : Row) → z ∈ rows → y ∈ rest → IsBelow row_cmp z y)
          → w.written ++ new_rows known (rows_of_sources range rows)
          ≡ new_rows (old ++ rest) (rows_of_sources range (w.final ++ rows))
      new_with rows rest sound ahead own below =
          let kept = rows_of_sources range rows in
          let decided : new_rows (old ++ rest) kept ≡ new_rows (last_of old) kept =
          new_same (old ++ rest) (last_of old) kept (λ z h.
          let here = in_within range z rows h in
          last_decides (millis_of gap) (some_millis gap is_gap) (all_of w.taken)
          (fronts_of streams) w.final last old rest z w.folding (first_in w.taken) sound
          (own z here) (λ y k. below z y here k)) in
          (λ i. w.are_new rest sound ahead i
          ++ (ap (λ (l : List Row). new_rows l kept)
          (AreReading-known remaining limit gap first now streams w.taken w.reading)
          ∙ sym decided) i)
          ∙ sym (filter-append (is_new (old ++ rest)) (rows_of_sources range w.final) kept)
          ∙ ap (new_rows (old ++ rest)) (sym (within_both range w.final rows))

      new_so_far : (rows : List Row) → ((z : Row) → z ∈ rows → z ∈ last)
          → w.written ++ new_rows known (rows_of_sources range rows)
          ≡ new_rows (old ++ []) (rows_of_sources range (w.final ++ rows))
      new_so_far rows own =
          new_with rows [] old_sound (λ y h. absurd h) own (λ z y h k. absurd k)

      -- what was put is whole
      written_whole : IsWhole gap w.written
      written_whole = sound_whole gap w.written is_gap (subst (Sound (millis_of gap))
          (sym (w.are_new [] old_sound (λ y h. absurd h)))
          (new_are_sound (millis_of gap) (old ++ []) (rows_of_sources range w.final)
          (sound_within (millis_of gap) range w.final final_sound))) w.put.spelled

      -- of the last row what is new is put
      module _ (closed : Bool) {wrote : Bool} {next : Outlet W}
          (p : PutsNew contents range wrote known out next (rows_put closed last)) where
        abbrev more : List Row
        more = new_rows known (rows_of_sources range (rows_put closed last))

        pub put_all : HasPut contents begun next (w.written ++ more)
        put_all = HasPut-then begun out next w.written more w.put p.puts

        pub whole_new : IsWhole gap (w.written ++ more)
        whole_new = sound_whole gap (w.written ++ more) is_gap (subst (Sound (millis_of gap))
            (sym (new_so_far (rows_put closed last) (put_last closed last)))
            (new_are_sound (millis_of gap) (old ++ [])
            (rows_of_sources range (w.final ++ rows_put closed last))
            (sound_within (millis_of gap) range (w.final ++ rows_put closed last)
            (closed_sound closed)))) put_all.spelled

        -- a fault of the inputs after that
        pub leaves_put : (fault : FoldFault) → IsOfInputs fault
            → LeavesNews contents gap fault begun next
        leaves_put fault is = (
          w.written ++ more,
          [],
          whole_new,
          parts_by contents fault (w.written ++ more) [] begun next is put_all.puts,
        )

        counts : (n : ℕ) → n ≡ cond wrote (count + 1) count → n ≡ length (w.written ++ more)
        counts n e = e ∙ count_put wrote count (length w.written) (length more) w.counted
            (len_there wrote more p.is_there) ∙ sym (length-append w.written more)

        -- it goes on
        module _ {i : ℕ} (f : IsFirst streams i) (sound : IsSoundRow f.row) (new : List Row)
            (takes : TakesNext closed (millis_of gap) last f.row new)
            (after : List (Counted R)) (others : List (RowStream A))
            (reading : AreReading remaining limit gap first after others
            (taken_at streams i w.taken)) (goes : GoesOn i streams others) where
          abbrev taken : List (List Row)
          taken = taken_at streams i w.taken

          -- the closed row comes before the one that closes it
          below_next : (c : Bool) → TakesNext c (millis_of gap) last f.row new
              → Sound (millis_of gap) ((w.final ++ rows_put c last) ++ new)
              → (z : Row) → z ∈ rows_put c last → IsBelow row_cmp z f.row
          below_next true t s z h = across (IsBelow row_cmp) (w.final ++ last) new z f.row
              s.ascending (in_right z w.final last h)
              (subst (λ (l : List Row). f.row ∈ l) (sym t.3) (inl refl))
          below_next false t s z h = absurd h

          closed_below : (z : Row) → z ∈ rows_put closed last → IsBelow row_cmp z f.row
          closed_below = below_next closed takes (read_sound gap is_gap (all_of taken)
              (fronts_of streams) (w.final ++ rows_put closed last) new
              (takes_here remaining limit gap first now streams w.taken w.reading i f w.final last
              w.folding sound closed new takes))

          in_front : f.row ∈ fronts_of streams
          in_front = AreReading-in remaining limit gap i first now streams w.taken f.row f.is
              w.reading

          was_ahead : (y : Row) → IsAhead (fronts_of others) y → IsAhead (fronts_of streams) y
          was_ahead y h =
              let at = AreReading-front remaining limit gap first after others taken h.0 reading
              h.1 in
              elim (goes at.0 f.row h.0 f.is at.1) [
                | inl was ↦ (
                  h.0,
                  AreReading-in remaining limit gap at.0 first now streams w.taken h.0 was
                      w.reading,
                  h.2,
                )
                | inr up ↦ (f.row, in_front, upto row_total f.row h.0 y up h.2)
              ]

          own_ahead : (b : Bool) (y : Row) → y ∈ taken_of b f.row → IsAhead (fronts_of streams) y
          own_ahead true y h = elim h [
            | inl same ↦ (
              f.row,
              in_front,
              subst (λ (z : Row). IsUpTo row_cmp f.row z) same (up_to_itself row_total f.row),
            )
            | inr never ↦ absurd never
          ]
          own_ahead false y h = absurd h

          old_on : first_of taken ≡ old ++ taken_of (is_first i) f.row
          old_on = first_taken remaining limit gap i first now streams w.taken f.row f.is w.reading

          step_new : (rest : List Row) → Sound (millis_of gap) (first_of taken ++ rest)
              → ((y : Row) → y ∈ rest → IsAhead (fronts_of others) y)
              → w.written ++ more
              ≡ new_rows (first_of taken ++ rest)
              (rows_of_sources range (w.final ++ rows_put closed last))
          step_new rest s ahead =
              let own = taken_of (is_first i) f.row in
              let whole : first_of taken ++ rest ≡ old ++ (own ++ rest) =
              ap (λ (l : List Row). l ++ rest) old_on ∙ append_assoc old own rest in
              let all_ahead : (y : Row) → y ∈ (own ++ rest) → IsAhead (fronts_of streams) y =
              λ y h. elim (in_either y own rest h) [
                | inl k ↦ own_ahead (is_first i) y k
                | inr k ↦ was_ahead y (ahead y k)
              ] in
              new_with (rows_put closed last) (own ++ rest) (subst (Sound (millis_of gap)) whole s)
              all_ahead (put_last closed last) (λ z y h k.
              let a = all_ahead y k in
              below_upto z f.row y (closed_below z h) (upto row_total f.row a.0 y
              (none_before remaining limit gap first now streams w.taken w.reading i f a.0 a.1)
              a.2))
              ∙ ap (λ (l : List Row). new_rows l
              (rows_of_sources range (w.final ++ rows_put closed last))) (sym whole)

          pub news_on : (n : ℕ) → n ≡ cond wrote (count + 1) count
              → IsNewing remaining contents limit gap range first after others begun next new n
          news_on n m = record {
            taken = taken;
            final = w.final ++ rows_put closed last;
            reading = reading;
            folding = takes_there remaining limit gap first now streams w.taken w.reading i f w.final
                last w.folding sound closed new takes after others reading goes;
            sound = first_sound remaining limit gap i first now streams w.taken w.reading w.sound;
            written = w.written ++ more;
            are_new = step_new;
            put = put_all;
            counted = counts n m;
          }

      -- all have ended
      pub news_end : ((k : ℕ) → row_at streams k ≡ None) → (some : Bool) (next : Outlet W) (n : ℕ)
          → PutsNew contents range some known out next last → n ≡ cond some (count + 1) count
          → (rows : List (List Row)) × AreBooks remaining limit gap first now rows
          × PutsNews contents gap n begun next (news_of_sources range gap rows).rows
      news_end none some next n p e =
          let book : w.final ++ last ≡ book_together (millis_of gap) (all_of w.taken) =
          ends_as_book (millis_of gap) (some_millis gap is_gap) (all_of w.taken)
          (fronts_of streams) w.final last w.folding in
          let same : w.written ++ new_rows known (rows_of_sources range last)
          ≡ (news_of_sources range gap w.taken).rows =
          new_so_far last (λ z h. h)
          ∙ (λ i. new_rows (append-nil old i) (rows_of_sources range (book i))) in (
            w.taken,
            AreReading-ended remaining limit gap first now streams w.taken none w.reading,
            subst (λ (l : List Row). PutsNews contents gap n begun next l) same (record {
              put = put_all true p;
              counted = counts true p n e;
              whole = whole_new true p;
            }),
          )

      -- ---- the last row can't be put, or the next one not be kept

      pub fails_left : (fault : FoldFault) (next : Outlet W)
          → FailsNew contents range fault known out next last
          → LeavesNews contents gap fault begun next
      fails_left fault next fails = elim fails [
        | inl m ↦ leaves_put m.1.0 m.1.2 fault (memory_own fault m.0)
        | inr write ↦ subst (λ (g : FoldFault). LeavesNews contents gap g begun next)
            (sym write.0) (
              w.written,
              rows_of_sources range last,
              written_whole,
              HasPut-fails begun out next w.written (rows_of_sources range last) w.put write.1,
            )
      ]

      pub fails_refused : (fault : FoldFault) (next : Outlet W)
          → FailsNew contents range fault known out next last
          → IsRefused remaining limit gap fault first now
      fails_refused fault next fails = elim fails [
        | inl m ↦ by_memory point fault m.0
        | inr write ↦ by_write point fault write.0
      ]
