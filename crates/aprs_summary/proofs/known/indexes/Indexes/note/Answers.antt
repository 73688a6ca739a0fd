use Rattle.aprs_summary.proofs.Common.{◌∙◌, Some, refl, sym, ap, subst}
use Rattle.aprs_summary.specs.Known.{FourIndexes, HasEntry, index_of, subject_bytes, positions, statuses, objects, items}
use Rattle.aprs_summary.proofs.known.indexes.Indexes.note.Goals as goal

pub note-requires : goal.note-requires
note-requires g c = λ k. (
  (refl, tt),
  (
      subst (λ (i : FourIndexes). HasEntry c.as_slice.result.now (index_of positions i))
      (sym c.self.view_is)
      (c.requires positions c.as_slice.result.now
      (ap (subject_bytes positions) c.in-Position.is ∙ ap Some (sym c.as_slice.ensures.value)))),
)

pub note-requires-in-Status : goal.note-requires-in-Status
note-requires-in-Status g c = λ k. (
  (refl, tt),
  (
      subst (λ (i : FourIndexes). HasEntry c.as_slice-in-Status.result.now (index_of statuses i))
      (sym c.self.view_is)
      (c.requires statuses c.as_slice-in-Status.result.now
      (ap (subject_bytes statuses) c.in-Status.is ∙ ap Some (sym c.as_slice-in-Status.ensures.value)))),
)

pub note-requires-in-Object : goal.note-requires-in-Object
note-requires-in-Object g c = λ k. (
  (refl, tt),
  (
      subst (λ (i : FourIndexes). HasEntry c.in-Object.name.now (index_of objects i))
      (sym c.self.view_is)
      (c.requires objects c.in-Object.name.now (ap (subject_bytes objects) c.in-Object.is))),
)

pub note-requires-in-Item : goal.note-requires-in-Item
note-requires-in-Item g c = λ k. (
  (refl, tt),
  (
      subst (λ (i : FourIndexes). HasEntry c.in-Item.name.now (index_of items i)) (sym c.self.view_is)
      (c.requires items c.in-Item.name.now (ap (subject_bytes items) c.in-Item.is))),
)
