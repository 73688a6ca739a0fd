use Rattle.aprs_book.proofs.Common.{◌≡◌, ◌∙◌, widened_to}
use Rattle.aprs_rows.proofs.SoundOrder.{in_order}
use Rattle.aprs_book.proofs.InStore.{sound_walk, joined_by, made_has, widened}
use Rattle.aprs_book.proofs.book.Book.widen_to.Goals as goal

pub add_rows-requires-clause-order : goal.add_rows-requires-clause-order
add_rows-requires-clause-order g c =
    in_order c.args.self.now c.walk.result c.walk.ensures.rows c.walk.ensures.sound

pub add_rows-requires-clause-sound : goal.add_rows-requires-clause-sound
add_rows-requires-clause-sound g c =
    sound_walk c.args.self.now c.walk.result c.walk.ensures.rows c.walk.ensures.sound

pub returns-clause-wide : goal.returns-clause-wide
returns-clause-wide g c =
    made_has (λ made. made ≡ widened_to c.args.gap c.args.self.now) c.book_of.result
    c.book_of.ensures
    (c.in_ok-add_rows.ensures.added ∙ (λ t. joined_by (c.new-store.ensures t) (c.walk.ensures.rows t)))
    (widened c.args.self.now c.walk.ensures.sound c.args.gap c.requires)
