-- What a fold writes is the book of all that its inputs stand for.
use Rattle.aprs_runs.proofs.Common.{◌≡◌, ◌∙◌, ◌<◌, ℕ, List, Received, [], ◌∷◌, ◌++◌, append_assoc, map, Option, Some, None, Ok, inl, inr, refl, sym, ap, subst, arith, SameMembers, Row, millis_of, Counted, Sends, in_either}
use Rattle.std.specs.Prelude.{◌≢◌, Err, IfSome, OnOk, Result}
use Rattle.aprs_io.specs.Input.{Gets}
use Rattle.aprs_io.specs.declared.input.InputEnd.{InputEnd}
use Rattle.aprs_transmissions.specs.Gap.{IsGap}
use Rattle.aprs_transmissions.specs.Sound.{AreSoundRows, Sound}
use Rattle.aprs_transmissions.specs.Together.{book_together}
use Rattle.aprs_transmissions.specs.Witnesses.{witnesses, witnesses_of_row}
use Rattle.aprs_transmissions.proofs.Soundness.{witnessed}
use Rattle.aprs_transmissions.proofs.Together.{together}
use Rattle.aprs_bookfile.specs.BookAnswers.{ReadsBook}
use Rattle.aprs_bookfile.specs.Text.{book_text, written_text}
use Rattle.aprs_bookfile.specs.declared.version.Version.TheVariants.{Three}
use Rattle.aprs_bookfile.proofs.BookRows.{rows_sound}
use Rattle.aprs_bookfile.proofs.Versions.{some_millis}
use Rattle.aprs_fold.specs.Inputs.{all_of, AreAsked, AreBooks}
use Rattle.aprs_fold.specs.Range.{all_sources, book_of_sources}
use Rattle.aprs_fold.specs.declared.fault.FoldFault.{FoldFault}
use Rattle.aprs_fold.specs.declared.fault.FoldFault.TheVariants as Fold
use Rattle.aprs_fold.specs.declared.range.SourceRange.{SourceRange}
use Rattle.aprs_fold.proofs.Kept.{all_within}
use Rattle.aprs_runs.specs.Fold.{run_fault_of, AreBookFiles, IsTextOfSources}
use Rattle.aprs_runs.specs.Inputs.{IsBookFileOf}
use Rattle.aprs_runs.specs.Merge.{IsBookOfAll, IsTextOfBook}
use Rattle.aprs_runs.specs.Outcome.{IsToldOf, WritesFor}
use Rattle.aprs_runs.specs.Several.{GiveUnion, GotOf}
use Rattle.aprs_runs.specs.declared.fault.RunFault.{RunFault}
use Rattle.aprs_runs.specs.declared.fault.RunFault.TheVariants as Run
use Rattle.aprs_runs.proofs.Merges.{HoldsOfEach, some_each}
use Rattle.aprs_runs.proofs.OneMerge.{book_of_union}
use Rattle.aprs_runs.proofs.Outcomes.{text_went}

-- ---- the witnesses of the rows of several books

witnesses_both : (a b : List Row) → witnesses (a ++ b) ≡ witnesses a ++ witnesses b
witnesses_both [] b = refl
witnesses_both (x ∷ a) b =
    let own = witnesses_of_row x in
    ap (λ l. own ++ l) (witnesses_both a b) ∙ sym (append_assoc own (witnesses a) (witnesses b))

-- What was got of each input is a book file, these are its rows, and together they stand for the
-- witnesses of all.
record AreFilesOf (gap limit : ℕ) (rows : List (List Row)) (gots : List (GotOf limit)) : Type 0 where
  files : AreBookFiles gap gots
  union : GiveUnion gap gots (witnesses (all_of rows))
  sound : AreSoundRows (all_of rows)

module _ {R : Type 0} (remaining : R → Option (List ℕ)) (limit gap : ℕ) where
  -- one input
  file_of : (input : List ℕ) (after : Option (List ℕ)) (own : List Row)
      → ReadsBook limit [] input after (Ok (record { gap = gap; rows = own }))
      → (g : GotOf limit) × (input ≡ g.text ++ g.rest) × (after ≡ g.after)
      × IsBookFileOf gap (witnesses own) g.text g.ending × Sound (millis_of gap) own
  file_of input after own h =
      let v = h.reads.0 in
      let same = h.reads.1 in
      let rows = h.reads.3 in
      let sound : Sound (millis_of gap) own =
      subst (λ n. Sound (millis_of n) own) (sym same) (rows_sound v own rows) in
      let pos : 0 < millis_of gap =
      subst (λ n. 0 < millis_of n) (sym same) (some_millis v rows.version) in (
        record {
          text = h.got;
          ending = h.ending;
          rest = h.gets.rest;
          after = after;
          ends = h.gets.ends;
        },
        h.gets.whole,
        refl,
        record {
          version = v;
          rows = own;
          gap_is = sym same;
          is_version = rows.version;
          spelled = rows.each;
          text_is = h.reads.2;
          whole = h.reads.4;
          book = witnessed (millis_of gap) own pos sound;
        },
        sound,
      )

  of_known : (known : Option (List ℕ)) (input : List ℕ) (P : List ℕ → Type 0)
      → known ≡ Some input → IfSome known P → P input
  of_known None input P e h = absurd (cc)
  of_known (Some text) input P e h = let same : text ≡ input = cc in subst P same h

  -- all inputs
  files_of : (first now : List (Counted R)) (rows : List (List Row)) (inputs : List (List ℕ))
      → map (λ (r : Counted R). remaining r.device) first ≡ some_each inputs
      → AreBooks remaining limit gap first now rows
      → HoldsOfEach limit inputs (map (λ (r : Counted R). remaining r.device) now)
      (AreFilesOf gap limit rows)
  files_of [] [] [] [] e h = (
    [],
    refl,
    refl,
    record {
      files = tt;
      union = refl;
      sound = λ x k. absurd k;
    },
  )
  files_of [] [] [] (input ∷ inputs) e h = absurd (cc)
  files_of [] [] (own ∷ rows) inputs e h = absurd h
  files_of [] (n ∷ now) rows inputs e h = absurd h
  files_of (f ∷ first) [] rows inputs e h = absurd h
  files_of (f ∷ first) (n ∷ now) [] inputs e h = absurd h
  files_of (f ∷ first) (n ∷ now) (own ∷ rows) [] e h = absurd (cc)
  files_of (f ∷ first) (n ∷ now) (own ∷ rows) (input ∷ inputs) e h =
      let head : remaining f.device ≡ Some input = cc in
      let tail : map (λ (r : Counted R). remaining r.device) first ≡ some_each inputs = cc in
      let one = file_of input (remaining n.device) own (of_known (remaining f.device) input
      (λ text. ReadsBook limit [] text (remaining n.device)
      (Ok (record { gap = gap; rows = own }))) head h.0.reads) in
      let more = files_of first now rows inputs tail h.1 in (
        one.0 ∷ more.0,
        ap (λ l. l ∷ inputs) one.1
            ∙ ap (λ l. (one.0.text ++ one.0.rest) ∷ l) more.1,
        ap (λ l. l ∷ map (λ (r : Counted R). remaining r.device) now) one.2
            ∙ ap (λ l. one.0.after ∷ l) more.2,
        record {
          files = ((witnesses own, one.3), more.3.files);
          union = (
            witnesses own,
            witnesses (all_of rows),
            inl one.3,
            more.3.union,
            subst (λ l. SameMembers (witnesses (own ++ all_of rows)) l)
                (witnesses_both own (all_of rows)) (λ z. (λ k. k, λ k. k)),
          );
          sound = λ x k. elim (in_either x own (all_of rows) k) [
            | inl a ↦ one.4.each x a
            | inr a ↦ more.3.sound x a
          ];
        },
      )

  -- each is a book file
  pub files_checked : (first now : List (Counted R)) (rows : List (List Row))
      → AreBooks remaining limit gap first now rows → (inputs : List (List ℕ))
      → map (λ (r : Counted R). remaining r.device) first ≡ some_each inputs
      → HoldsOfEach limit inputs (map (λ (r : Counted R). remaining r.device) now)
      (AreBookFiles gap)
  files_checked first now rows books inputs e =
      let files = files_of first now rows inputs e books in
      (files.0, files.1, files.2, files.3.files)

  -- what was written
  module _ {W : Type 0} (contents : W → Option (List ℕ)) (range : SourceRange)
      (is_gap : IsGap gap) where
    pub fold_writes : (first now : List (Counted R)) (rows : List (List Row)) (old new : Counted W)
        → AreBooks remaining limit gap first now rows
        → Sends {E = RunFault} contents (Ok tt) old new (written_text (book_of_sources range gap rows))
        → (inputs : List (List ℕ))
        → map (λ (r : Counted R). remaining r.device) first ≡ some_each inputs
        → HoldsOfEach limit inputs (map (λ (r : Counted R). remaining r.device) now)
        (λ gots. AreBookFiles gap gots
        × WritesFor (IsToldOf (GiveUnion gap gots) (IsTextOfSources range gap)) contents (Ok tt)
        old new)
    fold_writes first now rows old new books sent inputs e =
        let files = files_of first now rows inputs e books in
        let pos : 0 < millis_of gap = omega (arith, is_gap.0) in
        let book : IsBookOfAll gap (book_together (millis_of gap) (all_of rows)) files.0 = (
          witnesses (all_of rows),
          files.3.union,
          together (millis_of gap) (all_of rows) pos files.3.sound,
        ) in (
          files.0,
          files.1,
          files.2,
          (
            files.3.files,
            text_went (IsToldOf (GiveUnion gap files.0) (IsTextOfSources range gap)) contents old
                new (written_text (book_of_sources range gap rows)) (
                  (book.0, book.1),
                  λ S gives. record {
                    rows = book_together (millis_of gap) (all_of rows);
                    book = book_of_union gap limit files.0 S
                        (book_together (millis_of gap) (all_of rows)) gives book;
                    text_is = refl;
                  },
                ) sent,
          ),
        )

-- the text of the rows of all sources is that of the book
text_of_all : (gap : ℕ) (S : List Received) (text : List ℕ)
    → IsTextOfSources all_sources gap S text → IsTextOfBook gap S text
text_of_all gap S text h = record {
  rows = h.rows;
  book = h.book;
  text_is = h.text_is ∙ ap (book_text (Three gap)) (all_within h.rows);
}

pub fold_of_all : {W : Type 0} (limit gap : ℕ) (contents : W → Option (List ℕ))
    (old new : Counted W) (gots : List (GotOf limit)) (result : Result (Unit {0}) RunFault)
    (range : SourceRange) → range ≡ all_sources
    → OnOk result (AreBookFiles gap gots
    × WritesFor (IsToldOf (GiveUnion gap gots) (IsTextOfSources range gap)) contents result old new)
    → OnOk result (AreBookFiles gap gots
    × WritesFor (IsToldOf (GiveUnion gap gots) (IsTextOfBook gap)) contents result old new)
fold_of_all limit gap contents old new gots (Err fault) range is h = tt
fold_of_all limit gap contents old new gots (Ok u) range is h = (
  h.0,
  (
    h.1.0,
    (
      h.1.1.0,
      λ S gives. text_of_all gap S h.1.0
          (subst (λ (r : SourceRange). IsTextOfSources r gap S h.1.0) is (h.1.1.1 S gives)),
    ),
    h.1.2,
    h.1.3,
  ),
)

-- ---- a check

-- the run has no refusal of the output where the check has none
pub run_unwritten : (own : FoldFault) (fault : RunFault) → fault ≡ run_fault_of own → own ≢ Fold.Write
    → fault ≢ Run.Write
run_unwritten (Fold.Input index why) fault is unlike e = absurd (let f = sym is ∙ e in cc)
run_unwritten (Fold.OtherGap index) fault is unlike e = absurd (let f = sym is ∙ e in cc)
run_unwritten Fold.Memory fault is unlike e = absurd (let f = sym is ∙ e in cc)
run_unwritten Fold.Write fault is unlike e = unlike refl

-- ---- what was got where it ended early

module _ {R : Type 0} (remaining : R → Option (List ℕ)) (limit : ℕ) where
  got_of : (known : Option (List ℕ)) (input : List ℕ) (after : Option (List ℕ))
      → known ≡ Some input → IfSome known (λ input. (text : List ℕ) × (ending : InputEnd)
      × Gets limit input after text ending)
      → (g : GotOf limit) × (input ≡ g.text ++ g.rest) × (after ≡ g.after)
  got_of None input after e h = absurd (cc)
  got_of (Some own) input after e h =
      let same : own ≡ input = cc in (
        record { text = h.0; ending = h.1; rest = h.2.rest; after = after; ends = h.2.ends },
        sym same ∙ h.2.whole,
        refl,
      )

  pub gots_of : (first now : List (Counted R)) (inputs : List (List ℕ))
      → map (λ (r : Counted R). remaining r.device) first ≡ some_each inputs
      → AreAsked remaining limit first now
      → HoldsOfEach limit inputs (map (λ (r : Counted R). remaining r.device) now)
      (λ gots. Unit {0})
  gots_of [] [] [] e h = ([], refl, refl, tt)
  gots_of [] [] (input ∷ inputs) e h = absurd (cc)
  gots_of [] (n ∷ now) inputs e h = absurd h
  gots_of (f ∷ first) [] inputs e h = absurd h
  gots_of (f ∷ first) (n ∷ now) [] e h = absurd (cc)
  gots_of (f ∷ first) (n ∷ now) (input ∷ inputs) e h =
      let head : remaining f.device ≡ Some input = cc in
      let tail : map (λ (r : Counted R). remaining r.device) first ≡ some_each inputs = cc in
      let one = got_of (remaining f.device) input (remaining n.device) head h.0.gets in
      let more = gots_of first now inputs tail h.1 in (
        one.0 ∷ more.0,
        ap (λ l. l ∷ inputs) one.1 ∙ ap (λ l. (one.0.text ++ one.0.rest) ∷ l) more.1,
        ap (λ l. l ∷ map (λ (r : Counted R). remaining r.device) now) one.2
            ∙ ap (λ l. one.0.after ∷ l) more.2,
        tt,
      )
