use Rattle.aprs_book.proofs.Common.{◌≡◌, ◌∙◌, List, ◌∷◌, ◌++◌, [], ℕ, None, append_assoc, ap, subst, sym, Received, BookValue, IsSoundBook, millis_of, Row, Sound, sound_prefix, reading_of, refusal, none_exactly, free_ascends}
use Rattle.aprs_transmissions.specs.Key.{key_of}
use Rattle.aprs_book.specs.Keyed.{LastKeyIsUpTo}
use Rattle.aprs_summary.specs.Known.{report_bytes}
use Rattle.aprs_summary.specs.Notes.{AreNotesOf}
use Rattle.aprs_book.proofs.InStore.{all_put}
use Rattle.aprs_book.proofs.RefusalEnds.{none_ends_up_to}
use Rattle.aprs_book.proofs.book.Book.of_rows.Goals as goal

-- the next of sound rows
module _ (gap : ℕ) (kept old new all : List Row) (x : Row) (step : old ≡ x ∷ new)
    (split : kept ++ old ≡ all) where
  whole : (kept ++ x ∷ []) ++ new ≡ all
  whole = append_assoc kept (x ∷ []) new ∙ ap (λ xs. kept ++ xs) (sym step) ∙ split

  free : Sound gap all → None ≡ refusal gap kept x
  free s =
      let one : Sound gap (kept ++ x ∷ []) =
      sound_prefix gap (kept ++ x ∷ []) new (subst (Sound gap) (sym whole) s) in
      sym ((none_exactly gap kept x (sound_prefix gap kept (x ∷ []) one)).1 one)

pub of_view-requires : goal.of_view-requires
of_view-requires g c =
    let gap = millis_of c.args.rows.gap in
    free_ascends gap c.loop-row.kept c.in-Some.row
    (free gap c.loop-row.kept c.loop-row.row-iterator.rows c.next.new.self.rows c.args.rows.rows c.in-Some.row
    c.in-Some.ensures.steps c.loop-row.invariant.rows c.gap-gap.ensures.sound.sound)

pub append-requires : goal.append-requires
append-requires g c =
    let gap = millis_of c.args.rows.gap in
    subst (λ (x : Row). LastKeyIsUpTo x c.loop-row.kept) (sym c.in_ok-of_view.ensures)
    (none_ends_up_to gap c.loop-row.kept c.in-Some.row
    (free gap c.loop-row.kept c.loop-row.row-iterator.rows c.next.new.self.rows c.args.rows.rows c.in-Some.row
    c.in-Some.ensures.steps c.loop-row.invariant.rows c.gap-gap.ensures.sound.sound))

pub loop-row-preserved : goal.loop-row-preserved
loop-row-preserved g c =
    let kept = c.loop-row.kept in
    let row = c.in-Some.row in
    let heard = c.greatest-heard.ensures in
    let added : c.append.new.self ≡ kept ++ row ∷ [] =
    c.in_ok-append.ensures.added ∙ ap (λ (x : Row). kept ++ x ∷ []) c.in_ok-of_view.ensures in
    let source = c.call.ensures ∙ c.after-sender.ensures
    ∙ ap (λ (x : Received). (key_of x.frame).source) heard in
    let info = c.info_of.ensures ∙ ap (λ (x : Received). (key_of x.frame).info) heard in
    record {
      rows = ap (λ xs. xs ++ c.next.new.self.rows) added
          ∙ whole (millis_of c.args.rows.gap) kept c.loop-row.row-iterator.rows c.next.new.self.rows
          c.args.rows.rows row c.in-Some.ensures.steps c.loop-row.invariant.rows;
      notes = subst (λ (xs : List Row). AreNotesOf xs c.take.new.self) (sym added)
          (c.in_ok-take.ensures kept row c.loop-row.invariant.notes
          (λ topic. c.of.ensures topic
          ∙ (λ i. report_bytes topic (source i) (reading_of (info i)))) heard);
    }

pub of_kept-requires-clause-sound : goal.of_kept-requires-clause-sound
of_kept-requires-clause-sound g c =
    let rows = all_put c.loop-row.kept c.loop-row.row-iterator.rows c.args.rows.rows
    c.in-None.ensures.steps.0 c.loop-row.invariant.rows in
    subst (λ (b : BookValue). IsSoundBook b)
    (λ i. record { gap = sym c.gap-gap.ensures.value i; rows = sym rows i })
    c.gap-gap.ensures.sound

pub of_kept-requires-clause-indexes : goal.of_kept-requires-clause-indexes
of_kept-requires-clause-indexes g c =
    c.in_ok-into_indexes.ensures c.loop-row.kept c.loop-row.invariant.notes

pub returns : goal.returns
returns g c =
    c.of_kept.ensures
    ∙ (λ i. record {
      gap = c.gap-gap.ensures.value i;
      rows = all_put c.loop-row.kept c.loop-row.row-iterator.rows c.args.rows.rows
          c.in-None.ensures.steps.0 c.loop-row.invariant.rows i;
    })
