use Rattle.aprs_summary.proofs.Common.{◌∙◌, Some, sym, ap, subst}
use Rattle.aprs_summary.specs.Known.{FourIndexes, HasEntry, index_of, subject_bytes, positions, statuses, objects, items}
use Rattle.aprs_summary.proofs.known.indexes.Indexes.reserve.Goals as goal

pub returns-in-Position-clause-there : goal.returns-in-Position-clause-there
returns-in-Position-clause-there g c = λ h.
    c.reserve.ensures.there
    (subst (λ (i : FourIndexes). HasEntry c.as_slice.result.now (index_of positions i))
    (sym c.self.view_is)
    (h positions c.as_slice.result.now (ap (subject_bytes positions) c.in-Position.is
    ∙ ap Some (sym c.as_slice.ensures.value))))

pub returns-in-Status-clause-there : goal.returns-in-Status-clause-there
returns-in-Status-clause-there g c = λ h.
    c.reserve-in-Status.ensures.there
    (subst (λ (i : FourIndexes). HasEntry c.as_slice-in-Status.result.now (index_of statuses i))
    (sym c.self.view_is)
    (h statuses c.as_slice-in-Status.result.now
    (ap (subject_bytes statuses) c.in-Status.is
    ∙ ap Some (sym c.as_slice-in-Status.ensures.value))))

pub returns-in-Object-clause-there : goal.returns-in-Object-clause-there
returns-in-Object-clause-there g c = λ h.
    c.reserve-in-Object.ensures.there
    (subst (λ (i : FourIndexes). HasEntry c.in-Object.name.now (index_of objects i))
    (sym c.self.view_is)
    (h objects c.in-Object.name.now (ap (subject_bytes objects) c.in-Object.is)))

pub returns-in-Item-clause-there : goal.returns-in-Item-clause-there
returns-in-Item-clause-there g c = λ h.
    c.reserve-in-Item.ensures.there
    (subst (λ (i : FourIndexes). HasEntry c.in-Item.name.now (index_of items i))
    (sym c.self.view_is)
    (h items c.in-Item.name.now (ap (subject_bytes items) c.in-Item.is)))
