-- Several streams of rows, of which one is read on.
use Rattle.aprs_fold.proofs.Common.{◌≡◌, ◌≢◌, ◌<◌, ◌≤◌, ◌+◌, ◌⊎◌, ◌∙◌, ℕ, zero, suc, Bool, true, false, cond, List, [], ◌∷◌, ◌++◌, length, set, Option, None, Some, Ok, Err, inl, inr, refl, sym, ap, subst, arith, last_or, slice_get, in_either, in_left, in_right, Calls, Going, Fault, End, Last, Counted, Row, row_cmp, IsUpTo, IsBelow, Ordered, SameMembers, ◌∈◌}
use Rattle.std.specs.Ordering.{is_gt}
use Rattle.std.specs.Prelude.{IfSome, Result}
use Rattle.aprs_io.specs.Input.{Gets}
use Rattle.aprs_io.specs.declared.input.InputEnd.{InputEnd}
use Rattle.aprs_io.specs.declared.input.InputEnd.TheVariants as how
use Rattle.aprs_transmissions.specs.BookValue.{BookValue}
use Rattle.aprs_bookfile.specs.Asking.{AsksAt}
use Rattle.aprs_bookfile.specs.BookAnswers.{ReadsBook}
use Rattle.aprs_bookfile.specs.Reader.{gap_in, HoldsIn}
use Rattle.aprs_bookfile.specs.Reading.{Got, IsAnswered}
use Rattle.aprs_bookfile.specs.RowReader.{list_of_row, row_at_stage, version_in, KeepsVersion}
use Rattle.aprs_bookfile.specs.RowStream.{front_of, gap_of_stream, GetsOne, HasGot, HoldsTo, is_ended, IsFaultyAfter, stream_ahead, stream_size, taken_of, TakesLast}
use Rattle.aprs_bookfile.specs.Text.{IsBookRows}
use Rattle.aprs_bookfile.specs.Version.{gap_of}
use Rattle.aprs_bookfile.specs.declared.fault.BookCause.{BookCause}
use Rattle.aprs_bookfile.specs.declared.fault.BookCause.TheVariants as why
use Rattle.aprs_bookfile.specs.declared.fault.BookFault.{BookFault}
use Rattle.aprs_bookfile.specs.declared.stage.Stage.{Stage}
use Rattle.aprs_bookfile.specs.declared.stage.Stage.TheVariants.{Header, Rows, Done}
use Rattle.aprs_bookfile.specs.declared.row_stream.RowStream.{RowStream}
use Rattle.aprs_bookfile.specs.declared.version.Version.{Version}
use Rattle.aprs_bookfile.proofs.BookRows.{rows_sound}
use Rattle.aprs_bookfile.proofs.KeptRows.{last_pushed}
use Rattle.aprs_fold.specs.Fronts.{row_at}
use Rattle.aprs_fold.specs.LastRow.{row_taken_at}
use Rattle.aprs_fold.specs.NewRows.{last_of}
use Rattle.aprs_fold.specs.News.{first_of}
use Rattle.aprs_fold.specs.Inputs.{all_of, AreAsked, AreBooks, IsAsked, IsRefused}
use Rattle.aprs_fold.specs.Streams.{ahead_of, ahead_of_all, fronts_of, taken_at, AreReading, IsReading, IsReadyAt}
use Rattle.aprs_fold.specs.declared.fault.FoldFault.TheVariants.{Input}

-- the list of the last row
last_is : (rows : List Row) → last_of rows ≡ list_of_row (last_or None rows)
last_is [] = refl
last_is (x ∷ []) = refl
last_is (x ∷ y ∷ rows) = last_is (y ∷ rows)

-- ---- one input

asked_at : {R : Type 0} (cause : BookCause) (f n : Counted R) → AsksAt cause f n
    → (last : Last) × Calls last f n
asked_at why.Read f n h = (Fault, h)
asked_at why.Ending f n h = elim h [ inl going ↦ (Going, going) | inr end ↦ (End, end) ]
asked_at cause f n h = (Going, h)

-- what was got where it was answered, or where a row is in front
answered_gets : (limit : ℕ) (answer : Result BookValue BookFault) (known after : Option (List ℕ))
    → IfSome known (λ input. ReadsBook limit [] input after answer)
    → IfSome known (λ input. (text : List ℕ) × (ending : InputEnd)
    × Gets limit input after text ending)
answered_gets limit answer None after h = tt
answered_gets limit answer (Some input) after h = (h.got, h.ending, h.gets)

pub got_gets : (P : List ℕ → Type 0) (known after : Option (List ℕ)) (limit left : ℕ)
    → Got P [] known after limit left
    → IfSome known (λ input. (text : List ℕ) × (ending : InputEnd)
    × Gets limit input after text ending)
got_gets P None after limit left h = tt
got_gets P (Some input) None limit left h = absurd h.took
got_gets P (Some input) (Some rest) limit left h = (
  h.got,
  how.Read,
  record {
    rest = rest;
    whole = h.took;
    ends = (refl, (let size = h.size in omega (arith, size)));
  },
)

-- at its fault
pub faulty_asked : {R : Type 0} (remaining : R → Option (List ℕ)) (limit : ℕ) (f n : Counted R)
    (fault : BookFault) → IsAnswered remaining limit [] (Err fault) f n → IsAsked remaining limit f n
faulty_asked remaining limit f n fault h = record {
  gets = answered_gets limit (Err fault) (remaining f.device) (remaining n.device) h.reads;
  calls = asked_at fault.cause f n h.calls;
}

-- the gap of a version that stays
gap_of_version_in : (stage : Stage) (v : Version) → version_in stage ≡ Some v
    → gap_in stage ≡ gap_of v
gap_of_version_in Header v e = absurd (cc)
gap_of_version_in (Rows w) v e = let same : w ≡ v = cc in ap gap_of same
gap_of_version_in (Done w) v e = let same : w ≡ v = cc in ap gap_of same

gap_stays : (old new : Stage) (rows : List Row) (x : Row) → x ∷ [] ≡ row_at_stage old rows
    → KeepsVersion old new → gap_in new ≡ gap_in old
gap_stays Header new rows x e k = absurd (cc)
gap_stays (Rows v) new rows x e k = gap_of_version_in new v (k v refl)
gap_stays (Done v) new rows x e k = absurd (cc)

-- the row before the last in order
last_two : {X : Type 0} (Q : X → X → Type 0) (xs : List X) (x y : X)
    → Ordered Q ((xs ++ x ∷ []) ++ y ∷ []) → Q x y
last_two Q [] x y h = h.0 y (inl refl)
last_two Q (z ∷ xs) x y h = last_two Q xs x y h.1

pub rows_of_stage : (stage : Stage) (rows : List Row) (line : List ℕ) (x : Row) (before : List Row)
    → rows ≡ before ++ x ∷ [] → HoldsIn stage rows line → (v : Version) × IsBookRows v rows
rows_of_stage Header rows line x [] e h = absurd (let f = sym h ∙ e in cc)
rows_of_stage Header rows line x (y ∷ before) e h = absurd (let f = sym h ∙ e in cc)
rows_of_stage (Rows v) rows line x before e h = (v, h)
rows_of_stage (Done v) rows line x before e h = (v, h.0)

head_is : (x y : Row) → x ∷ [] ≡ y ∷ [] → x ≡ y
head_is x y e = cc

module _ {R A : Type 0} (remaining : R → Option (List ℕ)) (limit gap : ℕ) where
  pub gets_asked : (f n : Counted R) (s : RowStream A) (t : List Row)
      → GetsOne remaining limit [] f n s t → IsAsked remaining limit f n
  gets_asked f n s t h = elim h [
    | inl one ↦ record {
      gets = got_gets (HoldsTo s (t ++ one.0 ∷ [])) (remaining f.device) (remaining n.device) limit
          s.left one.3.got;
      calls = (Going, one.3.calls);
    }
    | inr none ↦ record {
      gets = answered_gets limit (Ok (record { gap = gap_of_stream s; rows = t }))
          (remaining f.device) (remaining n.device) none.2.reads;
      calls = (End, none.2.calls);
    }
  ]

  pub reading_asked : (f n : Counted R) (s : RowStream A) (t : List Row)
      → IsReading remaining limit gap f n s t → IsAsked remaining limit f n
  reading_asked f n s t h = gets_asked f n s t h.gets

  -- the next row comes after the one that was taken
  next_after : (f n : Counted R) (s : RowStream A) (t : List Row) (x y : Row)
      → IsReading remaining limit gap f n s (t ++ x ∷ [])
      → last_or None (front_of s) ≡ Some y → IsUpTo row_cmp x y
  next_after f n s t x y h is = elim h.gets [
    | inl one ↦
        let same : one.0 ≡ y = (let e : Some one.0 ≡ Some y
        = ap (last_or None) (sym one.1) ∙ is in cc) in
        let got = one.3.got.stands in
        let rows = rows_of_stage s.reader.stage ((t ++ x ∷ []) ++ one.0 ∷ []) got.2.line
        one.0 (t ++ x ∷ []) refl got.2.lines.holds in
        let below = last_two (IsBelow row_cmp) t x one.0
        (rows_sound rows.0 ((t ++ x ∷ []) ++ one.0 ∷ []) rows.1).ascending in
        subst (λ (r : Row). IsUpTo row_cmp x r) same (ap is_gt below)
    | inr none ↦ absurd (let e : None ≡ Some y = ap (last_or None) (sym none.0) ∙ is in cc)
  ]

  -- one row is taken, and the stream is read on
  pub reads_on : (f n m : Counted R) (s r : RowStream A) (t : List Row) → is_ended s ≡ false
      → ((limit : ℕ) (head : List ℕ) (first : Counted R) (rows : List Row)
      → HasGot remaining limit head first n s rows
      → GetsOne remaining limit head first m r rows)
      → stream_size r ≤ stream_size s → KeepsVersion s.reader.stage r.reader.stage
      → r.reader.keeping ≡ s.reader.keeping → TakesLast remaining n s r
      → IsReading remaining limit gap f n s t
      → IsReading remaining limit gap f m r (t ++ front_of s)
  reads_on f n m s r t going step size keeps same takes h = elim h.gets [
    | inl one ↦ record {
      gap_is = gap_stays s.reader.stage r.reader.stage s.reader.rows one.0 (sym one.1) keeps
          ∙ h.gap_is;
      size = (let old = h.size in omega (arith, old, size));
      gets = subst (λ (l : List Row). GetsOne remaining limit [] f m r (t ++ l)) (sym one.1)
          (step limit [] f (t ++ one.0 ∷ []) one.3);
      keeps = same ∙ h.keeps;
      lends = subst (λ (l : List Row). taken_of r ≡ list_of_row (last_or None (t ++ l)))
          (sym one.1) (takes limit [] f (t ++ one.0 ∷ []) h.keeps one.3);
    }
    | inr none ↦ absurd (let e : true ≡ false = sym none.1 ∙ going in cc)
  ]

  -- ---- all inputs

  pub AreReading-asked : (first now : List (Counted R)) (streams : List (RowStream A))
      (taken : List (List Row)) → AreReading remaining limit gap first now streams taken
      → AreAsked remaining limit first now
  AreReading-asked [] [] [] [] h = tt
  AreReading-asked [] [] [] (t ∷ taken) h = absurd h
  AreReading-asked [] [] (s ∷ streams) taken h = absurd h
  AreReading-asked [] (n ∷ now) streams taken h = absurd h
  AreReading-asked (f ∷ first) [] streams taken h = absurd h
  AreReading-asked (f ∷ first) (n ∷ now) [] taken h = absurd h
  AreReading-asked (f ∷ first) (n ∷ now) (s ∷ streams) [] h = absurd h
  AreReading-asked (f ∷ first) (n ∷ now) (s ∷ streams) (t ∷ taken) h =
      (reading_asked f n s t h.0, AreReading-asked first now streams taken h.1)

  pub AreReading-len : (first now : List (Counted R)) (streams : List (RowStream A))
      (taken : List (List Row)) → AreReading remaining limit gap first now streams taken
      → length streams ≡ length now
  AreReading-len [] [] [] [] h = refl
  AreReading-len [] [] [] (t ∷ taken) h = absurd h
  AreReading-len [] [] (s ∷ streams) taken h = absurd h
  AreReading-len [] (n ∷ now) streams taken h = absurd h
  AreReading-len (f ∷ first) [] streams taken h = absurd h
  AreReading-len (f ∷ first) (n ∷ now) [] taken h = absurd h
  AreReading-len (f ∷ first) (n ∷ now) (s ∷ streams) [] h = absurd h
  AreReading-len (f ∷ first) (n ∷ now) (s ∷ streams) (t ∷ taken) h =
      ap suc (AreReading-len first now streams taken h.1)

  module _ (n m : Counted R) (s r : RowStream A) where
    -- the row in front of one is taken, and it is read on
    pub AreReading-on : (i : ℕ) (first now : List (Counted R)) (streams : List (RowStream A))
        (taken : List (List Row)) → slice_get now i ≡ Some n → slice_get streams i ≡ Some s
        → ((f : Counted R) (t : List Row) → IsReading remaining limit gap f n s t
        → IsReading remaining limit gap f m r (t ++ front_of s))
        → AreReading remaining limit gap first now streams taken
        → AreReading remaining limit gap first (set now i m) (set streams i r)
        (taken_at streams i taken)
    AreReading-on i [] [] [] [] here there on h = absurd (cc)
    AreReading-on i [] [] [] (t ∷ taken) here there on h = absurd h
    AreReading-on i [] [] (a ∷ streams) taken here there on h = absurd h
    AreReading-on i [] (b ∷ now) streams taken here there on h = absurd h
    AreReading-on i (f ∷ first) [] streams taken here there on h = absurd h
    AreReading-on i (f ∷ first) (b ∷ now) [] taken here there on h = absurd h
    AreReading-on i (f ∷ first) (b ∷ now) (a ∷ streams) [] here there on h = absurd h
    AreReading-on zero (f ∷ first) (b ∷ now) (a ∷ streams) (t ∷ taken) here there on h =
        let one : n ≡ b = cc in
        let two : s ≡ a = cc in (
          subst (λ (w : RowStream A). IsReading remaining limit gap f m r (t ++ front_of w)) two
              (on f t (subst (λ (w : RowStream A). IsReading remaining limit gap f n w t) (sym two)
              (subst (λ (w : Counted R). IsReading remaining limit gap f w a t) (sym one) h.0))),
          h.1,
        )
    AreReading-on (suc i) (f ∷ first) (b ∷ now) (a ∷ streams) (t ∷ taken) here there on h =
        (h.0, AreReading-on i first now streams taken here there on h.1)

    -- it is faulty
    pub AreReading-faulty : (fault : BookFault) (i : ℕ) (first now : List (Counted R))
        (streams : List (RowStream A)) (taken : List (List Row)) → slice_get now i ≡ Some n
        → slice_get streams i ≡ Some s → is_ended s ≡ false
        → IsFaultyAfter remaining fault n m s
        → AreReading remaining limit gap first now streams taken
        → IsRefused remaining limit gap (Input i fault) first (set now i m)
        × AreAsked remaining limit first (set now i m)
    AreReading-faulty fault i [] [] [] [] here there going faulty h = absurd (cc)
    AreReading-faulty fault i [] [] [] (t ∷ taken) here there going faulty h = absurd h
    AreReading-faulty fault i [] [] (a ∷ streams) taken here there going faulty h = absurd h
    AreReading-faulty fault i [] (b ∷ now) streams taken here there going faulty h = absurd h
    AreReading-faulty fault i (f ∷ first) [] streams taken here there going faulty h = absurd h
    AreReading-faulty fault i (f ∷ first) (b ∷ now) [] taken here there going faulty h = absurd h
    AreReading-faulty fault i (f ∷ first) (b ∷ now) (a ∷ streams) [] here there going faulty h =
        absurd h
    AreReading-faulty fault zero (f ∷ first) (b ∷ now) (a ∷ streams) (t ∷ taken) here there going
        faulty h =
        let one : n ≡ b = cc in
        let two : s ≡ a = cc in
        let is : IsReading remaining limit gap f n s t =
        subst (λ (w : RowStream A). IsReading remaining limit gap f n w t) (sym two)
        (subst (λ (w : Counted R). IsReading remaining limit gap f w a t) (sym one) h.0) in
        let answered : IsAnswered remaining limit [] (Err fault) f m =
        elim is.gets [
          | inl got ↦ faulty limit [] f (t ++ got.0 ∷ []) got.3
          | inr none ↦ absurd (let e : true ≡ false = sym none.1 ∙ going in cc)
        ] in (
          (f, m, refl, refl, answered),
          (
            faulty_asked remaining limit f m fault answered,
            AreReading-asked first now streams taken h.1,
          ),
        )
    AreReading-faulty fault (suc i) (f ∷ first) (b ∷ now) (a ∷ streams) (t ∷ taken) here there going
        faulty h =
        let more = AreReading-faulty fault i first now streams taken here there going faulty h.1 in
        (more.0, (reading_asked f b a t h.0, more.1))

  -- the row in front of one comes after the one that was taken of it
  pub AreReading-after : (i : ℕ) (first now : List (Counted R)) (streams : List (RowStream A))
      (taken : List (List Row)) (m : Counted R) (r : RowStream A) (x y : Row)
      → row_at streams i ≡ Some x → AreReading remaining limit gap first now streams taken
      → AreReading remaining limit gap first (set now i m) (set streams i r)
      (taken_at streams i taken)
      → last_or None (front_of r) ≡ Some y → IsUpTo row_cmp x y
  AreReading-after i [] [] [] [] m r x y is h k next = absurd (cc)
  AreReading-after i [] [] [] (t ∷ taken) m r x y is h k next = absurd h
  AreReading-after i [] [] (a ∷ streams) taken m r x y is h k next = absurd h
  AreReading-after i [] (b ∷ now) streams taken m r x y is h k next = absurd h
  AreReading-after i (f ∷ first) [] streams taken m r x y is h k next = absurd h
  AreReading-after i (f ∷ first) (b ∷ now) [] taken m r x y is h k next = absurd h
  AreReading-after i (f ∷ first) (b ∷ now) (a ∷ streams) [] m r x y is h k next = absurd h
  AreReading-after zero (f ∷ first) (b ∷ now) (a ∷ streams) (t ∷ taken) m r x y is h k next =
      elim h.0.gets [
        | inl one ↦
            let same : one.0 ≡ x = (let e : Some one.0 ≡ Some x
            = ap (last_or None) (sym one.1) ∙ is in cc) in
            next_after f m r t x y
            (subst (λ (l : List Row). IsReading remaining limit gap f m r (t ++ l))
            (one.1 ∙ ap (λ (z : Row). z ∷ []) same) k.0) next
        | inr none ↦ absurd (let e : None ≡ Some x = ap (last_or None) (sym none.0) ∙ is in cc)
      ]
  AreReading-after (suc i) (f ∷ first) (b ∷ now) (a ∷ streams) (t ∷ taken) m r x y is h k next =
      AreReading-after i first now streams taken m r x y is h.1 k.1 next

  -- then that stream lends it
  pub AreReading-lends : (i : ℕ) (first before now : List (Counted R))
      (streams others : List (RowStream A)) (taken : List (List Row)) (x : Row)
      → row_at streams i ≡ Some x → AreReading remaining limit gap first before streams taken
      → AreReading remaining limit gap first now others (taken_at streams i taken)
      → row_taken_at others i ≡ x ∷ []
  AreReading-lends i [] [] now [] others [] x is h k = absurd (cc)
  AreReading-lends i [] [] now [] others (t ∷ taken) x is h k = absurd h
  AreReading-lends i [] [] now (a ∷ streams) others taken x is h k = absurd h
  AreReading-lends i [] (b ∷ before) now streams others taken x is h k = absurd h
  AreReading-lends i (f ∷ first) [] now streams others taken x is h k = absurd h
  AreReading-lends i (f ∷ first) (b ∷ before) now [] others taken x is h k = absurd h
  AreReading-lends i (f ∷ first) (b ∷ before) now (a ∷ streams) others [] x is h k = absurd h
  AreReading-lends zero (f ∷ first) (b ∷ before) [] (a ∷ streams) others (t ∷ taken) x is h k =
      absurd k
  AreReading-lends zero (f ∷ first) (b ∷ before) (n ∷ now) (a ∷ streams) [] (t ∷ taken) x is h k =
      absurd k
  AreReading-lends zero (f ∷ first) (b ∷ before) (n ∷ now) (a ∷ streams) (r ∷ others) (t ∷ taken)
      x is h k = elim h.0.gets [
        | inl one ↦
            let same : one.0 ≡ x = (let e : Some one.0 ≡ Some x
            = ap (last_or None) (sym one.1) ∙ is in cc) in
            k.0.lends ∙ ap (λ (l : List Row). list_of_row (last_or None (t ++ l))) one.1
            ∙ ap list_of_row (last_pushed t one.0) ∙ ap (λ (z : Row). z ∷ []) same
        | inr none ↦ absurd (let e : None ≡ Some x = ap (last_or None) (sym none.0) ∙ is in cc)
      ]
  AreReading-lends (suc i) (f ∷ first) (b ∷ before) [] (a ∷ streams) others (t ∷ taken) x is h k =
      absurd k
  AreReading-lends (suc i) (f ∷ first) (b ∷ before) (n ∷ now) (a ∷ streams) [] (t ∷ taken) x is h k
      = absurd k
  AreReading-lends (suc i) (f ∷ first) (b ∷ before) (n ∷ now) (a ∷ streams) (r ∷ others)
      (t ∷ taken) x is h k = AreReading-lends i first before now streams others taken x is h.1 k.1

  -- the first one lends the last row that was taken of it
  pub AreReading-known : (first now : List (Counted R)) (streams : List (RowStream A))
      (taken : List (List Row)) → AreReading remaining limit gap first now streams taken
      → row_taken_at streams zero ≡ last_of (first_of taken)
  AreReading-known [] [] [] [] h = refl
  AreReading-known [] [] [] (t ∷ taken) h = absurd h
  AreReading-known [] [] (s ∷ streams) taken h = absurd h
  AreReading-known [] (n ∷ now) streams taken h = absurd h
  AreReading-known (f ∷ first) [] streams taken h = absurd h
  AreReading-known (f ∷ first) (n ∷ now) [] taken h = absurd h
  AreReading-known (f ∷ first) (n ∷ now) (s ∷ streams) [] h = absurd h
  AreReading-known (f ∷ first) (n ∷ now) (s ∷ streams) (t ∷ taken) h =
      h.0.lends ∙ sym (last_is t)

  -- where no row is in front, all have ended
  pub AreReading-ended : (first now : List (Counted R)) (streams : List (RowStream A))
      (taken : List (List Row)) → ((k : ℕ) → row_at streams k ≡ None)
      → AreReading remaining limit gap first now streams taken
      → AreBooks remaining limit gap first now taken
  AreReading-ended [] [] [] [] none h = tt
  AreReading-ended [] [] [] (t ∷ taken) none h = absurd h
  AreReading-ended [] [] (s ∷ streams) taken none h = absurd h
  AreReading-ended [] (n ∷ now) streams taken none h = absurd h
  AreReading-ended (f ∷ first) [] streams taken none h = absurd h
  AreReading-ended (f ∷ first) (n ∷ now) [] taken none h = absurd h
  AreReading-ended (f ∷ first) (n ∷ now) (s ∷ streams) [] none h = absurd h
  AreReading-ended (f ∷ first) (n ∷ now) (s ∷ streams) (t ∷ taken) none h = (
    elim h.0.gets [
      | inl one ↦ absurd (let e : Some one.0 ≡ None
          = ap (last_or None) (sym one.1) ∙ none zero in cc)
      | inr end ↦ subst (λ (g : ℕ). IsAnswered remaining limit []
          (Ok (record { gap = g; rows = t })) f n) h.0.gap_is end.2
    ],
    AreReading-ended first now streams taken (λ k. none (suc k)) h.1,
  )

  -- a stream with a row in front may be read on
  pub AreReading-ready : (i : ℕ) (first now : List (Counted R)) (streams : List (RowStream A))
      (taken : List (List Row)) (x : Row) → row_at streams i ≡ Some x
      → AreReading remaining limit gap first now streams taken → IsReadyAt streams i
  AreReading-ready i [] [] [] [] x is h = absurd (cc)
  AreReading-ready i [] [] [] (t ∷ taken) x is h = absurd h
  AreReading-ready i [] [] (s ∷ streams) taken x is h = absurd h
  AreReading-ready i [] (n ∷ now) streams taken x is h = absurd h
  AreReading-ready i (f ∷ first) [] streams taken x is h = absurd h
  AreReading-ready i (f ∷ first) (n ∷ now) [] taken x is h = absurd h
  AreReading-ready i (f ∷ first) (n ∷ now) (s ∷ streams) [] x is h = absurd h
  AreReading-ready zero (f ∷ first) (n ∷ now) (s ∷ streams) (t ∷ taken) x is h =
      elim h.0.gets [
        | inl one ↦ (h.0.size, one.2)
        | inr none ↦ absurd (let e : None ≡ Some x = ap (last_or None) (sym none.0) ∙ is in cc)
      ]
  AreReading-ready (suc i) (f ∷ first) (n ∷ now) (s ∷ streams) (t ∷ taken) x is h =
      AreReading-ready i first now streams taken x is h.1

  -- a row in front is that of one of the streams
  pub AreReading-front : (first now : List (Counted R)) (streams : List (RowStream A))
      (taken : List (List Row)) (y : Row)
      → AreReading remaining limit gap first now streams taken → y ∈ fronts_of streams
      → (k : ℕ) × (row_at streams k ≡ Some y)
  AreReading-front [] [] [] [] y h in_front = absurd in_front
  AreReading-front [] [] [] (t ∷ taken) y h in_front = absurd h
  AreReading-front [] [] (s ∷ streams) taken y h in_front = absurd h
  AreReading-front [] (n ∷ now) streams taken y h in_front = absurd h
  AreReading-front (f ∷ first) [] streams taken y h in_front = absurd h
  AreReading-front (f ∷ first) (n ∷ now) [] taken y h in_front = absurd h
  AreReading-front (f ∷ first) (n ∷ now) (s ∷ streams) [] y h in_front = absurd h
  AreReading-front (f ∷ first) (n ∷ now) (s ∷ streams) (t ∷ taken) y h in_front =
      elim (in_either y (front_of s) (fronts_of streams) in_front) [
        | inl own ↦ elim h.0.gets [
          | inl one ↦ elim (subst (λ (l : List Row). y ∈ l) one.1 own) [
            | inl same ↦ (zero, ap (last_or None) one.1 ∙ ap (λ (z : Row). Some z) same)
            | inr never ↦ absurd never
          ]
          | inr none ↦ absurd (subst (λ (l : List Row). y ∈ l) none.0 own)
        ]
        | inr more ↦
            let rest = AreReading-front first now streams taken y h.1 more in (suc rest.0, rest.1)
      ]

  -- the row of a stream is in front
  pub AreReading-in : (i : ℕ) (first now : List (Counted R)) (streams : List (RowStream A))
      (taken : List (List Row)) (x : Row) → row_at streams i ≡ Some x
      → AreReading remaining limit gap first now streams taken → x ∈ fronts_of streams
  AreReading-in i [] [] [] [] x is h = absurd (cc)
  AreReading-in i [] [] [] (t ∷ taken) x is h = absurd h
  AreReading-in i [] [] (s ∷ streams) taken x is h = absurd h
  AreReading-in i [] (n ∷ now) streams taken x is h = absurd h
  AreReading-in i (f ∷ first) [] streams taken x is h = absurd h
  AreReading-in i (f ∷ first) (n ∷ now) [] taken x is h = absurd h
  AreReading-in i (f ∷ first) (n ∷ now) (s ∷ streams) [] x is h = absurd h
  AreReading-in zero (f ∷ first) (n ∷ now) (s ∷ streams) (t ∷ taken) x is h =
      in_left x (front_of s) (fronts_of streams) (elim h.0.gets [
        | inl one ↦ subst (λ (l : List Row). x ∈ l) (sym one.1)
            (inl (let e : Some one.0 ≡ Some x = ap (last_or None) (sym one.1) ∙ is in cc))
        | inr none ↦ absurd (let e : None ≡ Some x = ap (last_or None) (sym none.0) ∙ is in cc)
      ])
  AreReading-in (suc i) (f ∷ first) (n ∷ now) (s ∷ streams) (t ∷ taken) x is h =
      in_right x (front_of s) (fronts_of streams) (AreReading-in i first now streams taken x is h.1)

  -- the rows that were taken are those of before, and this one
  pub AreReading-taken : (i : ℕ) (first now : List (Counted R)) (streams : List (RowStream A))
      (taken : List (List Row)) (x : Row) → row_at streams i ≡ Some x
      → AreReading remaining limit gap first now streams taken
      → SameMembers (all_of (taken_at streams i taken)) (x ∷ all_of taken)
  AreReading-taken i [] [] [] [] x is h = absurd (cc)
  AreReading-taken i [] [] [] (t ∷ taken) x is h = absurd h
  AreReading-taken i [] [] (s ∷ streams) taken x is h = absurd h
  AreReading-taken i [] (n ∷ now) streams taken x is h = absurd h
  AreReading-taken i (f ∷ first) [] streams taken x is h = absurd h
  AreReading-taken i (f ∷ first) (n ∷ now) [] taken x is h = absurd h
  AreReading-taken i (f ∷ first) (n ∷ now) (s ∷ streams) [] x is h = absurd h
  AreReading-taken zero (f ∷ first) (n ∷ now) (s ∷ streams) (t ∷ taken) x is h =
      let own : front_of s ≡ x ∷ [] = elim h.0.gets [
        | inl one ↦ one.1 ∙ (let e : Some one.0 ≡ Some x
            = ap (last_or None) (sym one.1) ∙ is in cc)
        | inr none ↦ absurd (let e : None ≡ Some x = ap (last_or None) (sym none.0) ∙ is in cc)
      ] in
      subst (λ (l : List Row). SameMembers ((t ++ l) ++ all_of taken) (x ∷ (t ++ all_of taken)))
      (sym own) (one_more t x (all_of taken)) where
        one_more : (t : List Row) (x : Row) (rest : List Row)
            → SameMembers ((t ++ x ∷ []) ++ rest) (x ∷ (t ++ rest))
        one_more t x rest z = (
          λ k. elim (in_either z (t ++ x ∷ []) rest k) [
            | inl a ↦ elim (in_either z t (x ∷ []) a) [
              | inl b ↦ inr (in_left z t rest b)
              | inr b ↦ elim b [ inl e ↦ inl e | inr never ↦ absurd never ]
            ]
            | inr a ↦ inr (in_right z t rest a)
          ],
          λ k. elim k [
            | inl e ↦ in_left z (t ++ x ∷ []) rest (in_right z t (x ∷ []) (inl e))
            | inr a ↦ elim (in_either z t rest a) [
              | inl b ↦ in_left z (t ++ x ∷ []) rest (in_left z t (x ∷ []) b)
              | inr b ↦ in_right z (t ++ x ∷ []) rest b
            ]
          ],
        )
  AreReading-taken (suc i) (f ∷ first) (n ∷ now) (s ∷ streams) (t ∷ taken) x is h =
      let more = AreReading-taken i first now streams taken x is h.1 in
      λ z. (
        λ k. elim (in_either z t (all_of (taken_at streams i taken)) k) [
          | inl a ↦ inr (in_left z t (all_of taken) a)
          | inr a ↦ elim ((more z).0 a) [
            | inl e ↦ inl e
            | inr b ↦ inr (in_right z t (all_of taken) b)
          ]
        ],
        λ k. elim k [
          | inl e ↦ in_right z t (all_of (taken_at streams i taken)) ((more z).1 (inl e))
          | inr a ↦ elim (in_either z t (all_of taken) a) [
            | inl b ↦ in_left z t (all_of (taken_at streams i taken)) b
            | inr b ↦ in_right z t (all_of (taken_at streams i taken)) ((more z).1 (inr b))
          ]
        ],
      )

-- the row in front of each stream after one was read on
pub row_at-set : {A : Type 0} (streams : List (RowStream A)) (i k : ℕ) (r : RowStream A) (y : Row)
    → row_at (set streams i r) k ≡ Some y
    → (row_at streams k ≡ Some y) ⊎ (last_or None (front_of r) ≡ Some y)
row_at-set [] i k r y e = inl e
row_at-set (s ∷ streams) zero zero r y e = inr e
row_at-set (s ∷ streams) zero (suc k) r y e = inl e
row_at-set (s ∷ streams) (suc i) zero r y e = inl e
row_at-set (s ∷ streams) (suc i) (suc k) r y e = row_at-set streams i k r y e

-- the others are as before
pub row_at-other : {A : Type 0} (streams : List (RowStream A)) (i k : ℕ) (r : RowStream A) → k ≢ i
    → row_at (set streams i r) k ≡ row_at streams k
row_at-other [] i k r unlike = refl
row_at-other (s ∷ streams) zero zero r unlike = absurd (unlike refl)
row_at-other (s ∷ streams) zero (suc k) r unlike = refl
row_at-other (s ∷ streams) (suc i) zero r unlike = refl
row_at-other (s ∷ streams) (suc i) (suc k) r unlike =
    row_at-other streams i k r (λ e. unlike (ap suc e))

-- less is ahead
pub less_ahead : (b c : Bool) (m n : ℕ) → b ≡ false → (c ≡ false → m < n)
    → cond c 0 (m + 1) < cond b 0 (n + 1)
less_ahead true c m n e less = absurd (cc)
less_ahead false true m n e less = omega arith
less_ahead false false m n e less = let lt = less refl in omega (arith, lt)

pub ahead_less : {A : Type 0} (i : ℕ) (streams : List (RowStream A)) (s r : RowStream A)
    → slice_get streams i ≡ Some s → is_ended s ≡ false
    → (is_ended r ≡ false → stream_ahead r < stream_ahead s)
    → ahead_of_all (set streams i r) < ahead_of_all streams
ahead_less i [] s r here going less = absurd (cc)
ahead_less zero (a ∷ streams) s r here going less =
    let same : s ≡ a = cc in
    let own : ahead_of r < ahead_of s =
    less_ahead (is_ended s) (is_ended r) (stream_ahead r) (stream_ahead s) going less in
    let same_ahead = ap ahead_of same in
    let before : ahead_of_all (a ∷ streams) ≡ ahead_of a + ahead_of_all streams = refl in
    let after : ahead_of_all (r ∷ streams) ≡ ahead_of r + ahead_of_all streams = refl in
    omega (arith, own, same_ahead, before, after)
ahead_less (suc i) (a ∷ streams) s r here going less =
    let more = ahead_less i streams s r here going less in
    let before : ahead_of_all (a ∷ streams) ≡ ahead_of a + ahead_of_all streams = refl in
    let after : ahead_of_all (a ∷ set streams i r) ≡ ahead_of a + ahead_of_all (set streams i r) =
    refl in
    omega (arith, more, before, after)

-- the stream of a number that is ready
pub ready_is : {A : Type 0} (i : ℕ) (streams : List (RowStream A)) (s : RowStream A)
    → slice_get streams i ≡ Some s → IsReadyAt streams i → IsReadyAt (s ∷ []) zero
ready_is i [] s here h = absurd h
ready_is zero (a ∷ streams) s here h =
    let same : s ≡ a = cc in subst (λ (w : RowStream _). IsReadyAt (w ∷ []) zero) (sym same) h
ready_is (suc i) (a ∷ streams) s here h = ready_is i streams s here h

pub ready_within : {A : Type 0} (i : ℕ) (streams : List (RowStream A)) → IsReadyAt streams i
    → i < length streams
ready_within i [] h = absurd h
ready_within zero (s ∷ streams) h = omega arith
ready_within (suc i) (s ∷ streams) h = let more = ready_within i streams h in omega (arith, more)
