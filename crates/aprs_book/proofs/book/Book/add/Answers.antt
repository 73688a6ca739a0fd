use Rattle.aprs_book.proofs.Common.{◌≡◌, ◌∙◌, ◌∷◌, ◌++◌, [], None, sym, ap, refl, subst, Received, millis_of, Row, Sound, refusal, free_ascends, none_exactly}
use Rattle.aprs_transmissions.specs.Key.{key_of}
use Rattle.aprs_book.specs.Keyed.{LastKeyIsUpTo}
use Rattle.aprs_summary.specs.Known.{topic_bytes}
use Rattle.aprs_book.proofs.Taking.{refusal_is}
use Rattle.aprs_book.proofs.RefusalEnds.{none_ends_up_to}
use Rattle.aprs_summary.proofs.IndexSteps.{Noted, pushes_indexes}
use Rattle.aprs_book.proofs.book.Book.add.Goals as goal

pub of-requires : goal.of-requires
of-requires g c =
    let gap = millis_of c.self.inside.gap in
    let none : refusal gap c.self.inside.rows c.args.parts.now ≡ None =
    refusal_is c.self.inside.gap gap refl c.self.inside.rows c.args.self.now c.args.parts.now
    c.self.view_is ∙ c.requires in
    free_ascends gap c.self.inside.rows c.args.parts.now (sym none)

pub append-requires : goal.append-requires
append-requires g c =
    let gap = millis_of c.self.inside.gap in
    let none : refusal gap c.self.inside.rows c.args.parts.now ≡ None =
    refusal_is c.self.inside.gap gap refl c.self.inside.rows c.args.self.now c.args.parts.now
    c.self.view_is ∙ c.requires in
    subst (λ (x : Row). LastKeyIsUpTo x c.self.inside.rows) (sym c.in_ok-of.ensures)
    (none_ends_up_to gap c.self.inside.rows c.args.parts.now (sym none))

pub invariant_of-self-2 : goal.invariant_of-self-2
invariant_of-self-2 g c =
    let gap = millis_of c.self.inside.gap in
    let none : refusal gap c.self.inside.rows c.args.parts.now ≡ None =
    refusal_is c.self.inside.gap gap refl c.self.inside.rows c.args.self.now c.args.parts.now
    c.self.view_is ∙ c.requires in
    let added : c.append.new.self ≡ c.self.inside.rows ++ c.args.parts.now ∷ [] =
    c.in_ok-append.ensures.added
    ∙ ap (λ (x : Row). c.self.inside.rows ++ x ∷ []) c.in_ok-of.ensures in (
      record {
        range = c.self.invariant.0.range;
        sound = subst (Sound gap) (sym added)
            ((none_exactly gap c.self.inside.rows c.args.parts.now c.self.invariant.0.sound).0
            none);
      },
      pushes_indexes c.of_heard-subject.result c.args.parts.now c.self.inside.rows c.append.new.self
          c.self.inside.indexes c.reserve.new.self c.note.new.self c.self.invariant.1
          (λ topic. c.of_heard-subject.ensures topic
          ∙ ap (λ (x : Received). topic_bytes topic (key_of x.frame)) c.heard-heard.ensures)
          c.in_ok-reserve.ensures.same
          (subst (λ (x : Received). Noted c.of_heard-subject.result x c.reserve.new.self c.note.new.self)
          c.heard-heard.ensures c.note.ensures)
          added,
    )
