use Rattle.aprs_book.proofs.Common.{◌≡◌, ◌∙◌, ℕ, List, [], Row, AreJoined, BookValue, IsSoundBook, gap_laws, millis_of}
use Rattle.aprs_book.specs.Changes.{MergesInto}
use Rattle.aprs_rows.proofs.SoundOrder.{in_order}
use Rattle.aprs_book.proofs.InStore.{sound_walk, joined_by, made_has, both, are_joined, is_merged}
use Rattle.aprs_book.proofs.Taking.{value}
use Rattle.aprs_book.proofs.book.Book.unite.Goals as goal

-- a store to which the rows of both were added
both_added : (a b none one two : BookValue) (gap : ℕ) (ours theirs : List Row) → gap ≡ a.gap
    → none ≡ value gap [] → one ≡ joined_by none ours → two ≡ joined_by one theirs
    → ours ≡ a.rows → theirs ≡ b.rows → two ≡ both a b
both_added a b none one two gap ours theirs g n f h o p =
    h ∙ (λ i. joined_by ((f ∙ (λ j. joined_by ((n ∙ (λ k. value (g k) [])) j) (o j))) i) (p i))

pub add_rows-requires-clause-order : goal.add_rows-requires-clause-order
add_rows-requires-clause-order g c =
    in_order c.args.self.now c.walk-ours.result c.walk-ours.ensures.rows c.walk-ours.ensures.sound

pub add_rows-requires-clause-sound : goal.add_rows-requires-clause-sound
add_rows-requires-clause-sound g c =
    sound_walk c.args.self.now c.walk-ours.result c.walk-ours.ensures.rows c.walk-ours.ensures.sound

pub add_rows-requires-2-clause-order : goal.add_rows-requires-2-clause-order
add_rows-requires-2-clause-order g c =
    in_order c.args.other.now c.walk-theirs.result c.walk-theirs.ensures.rows c.walk-theirs.ensures.sound

pub add_rows-requires-2-clause-sound : goal.add_rows-requires-2-clause-sound
add_rows-requires-2-clause-sound g c =
    sound_walk c.args.other.now c.walk-theirs.result c.walk-theirs.ensures.rows c.walk-theirs.ensures.sound

pub returns : goal.returns
returns g c =
    let a = c.args.self.now in
    let b = c.args.other.now in
    let made = both_added a b c.new-store.result c.add_rows.new.store c.add_rows-2.new.store
    c.gap.result c.walk-ours.result c.walk-theirs.result c.gap.ensures c.new-store.ensures
    c.in_ok-add_rows.ensures.added c.in_ok-add_rows-2.ensures.added c.walk-ours.ensures.rows
    c.walk-theirs.ensures.rows in
    let w = c.walk-ours.ensures.sound in
    let v = c.walk-theirs.ensures.sound in
    let joined = are_joined a b c.requires w v in
    record {
      joined = made_has (AreJoined a b) c.book_of.result c.book_of.ensures made joined;
      book =
          made_has (λ made. MergesInto (millis_of a.gap) a.rows b.rows made.rows) c.book_of.result
          c.book_of.ensures made (is_merged a b c.requires w v);
      sound_result =
          made_has IsSoundBook c.book_of.result c.book_of.ensures made
          (gap_laws.stays a b (both a b) joined);
      sound = w;
      sound_other = v;
    }
