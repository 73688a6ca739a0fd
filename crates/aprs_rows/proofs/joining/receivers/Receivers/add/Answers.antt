use Rattle.aprs_rows.proofs.Common.{◌≡◌, ◌≤◌, ℕ, List, [], ◌∷◌, OnOk, length, sym, subst, insert, bytes_cmp, ◌∈◌, add, IsUnited}
use Rattle.aprs_rows.proofs.ReceiverNames.{listed_is_there, kept_ordered, added_is_united, inserted_joins}
use Rattle.aprs_rows.specs.KeptNames.{names_kept}
use Rattle.aprs_rows.proofs.joining.receivers.Receivers.add.Goals as goal

pub invariant_of-self : goal.invariant_of-self
invariant_of-self g c =
    let name = c.args.name.now in
    let found = subst (λ (ys : List (List ℕ)). (c.in-Err.i ≤ length ys)
    × (add bytes_cmp name ys ≡ insert ys c.in-Err.i name)) c.as_slice.ensures c.in-Err.ensures in
    kept_ordered c.insert.result name _ _ c.in-Err.i c.self.invariant found.1
    c.insert.ensures.inserted c.insert.ensures.unchanged

pub returns-in-Ok-clause-joined : goal.returns-in-Ok-clause-joined
returns-in-Ok-clause-joined g c =
    let name = c.args.name.now in
    let names = names_kept c.self.inside.names in
    let found = subst (λ (ys : List (List ℕ)). add bytes_cmp name ys ≡ ys)
    c.as_slice.ensures c.in-Ok.ensures in
    subst (λ (ys : List (List ℕ)). IsUnited bytes_cmp (name ∷ []) ys ys) c.self.view_is
    (subst (IsUnited bytes_cmp (name ∷ []) names) found
    (added_is_united name names c.self.invariant))

pub returns-in-Err-clause-joined : goal.returns-in-Err-clause-joined
returns-in-Err-clause-joined g c =
    let name = c.args.name.now in
    let found = subst (λ (ys : List (List ℕ)). (c.in-Err.i ≤ length ys)
    × (add bytes_cmp name ys ≡ insert ys c.in-Err.i name)) c.as_slice.ensures c.in-Err.ensures in
    subst (λ (ys : List (List ℕ)). OnOk c.insert.result (IsUnited bytes_cmp (name ∷ []) ys
    (names_kept c.insert.new.self))) c.self.view_is
    (inserted_joins c.insert.result name _ _ c.in-Err.i c.self.invariant found.1
    c.insert.ensures.inserted)

pub returns-in-Err-clause-listed : goal.returns-in-Err-clause-listed
returns-in-Err-clause-listed g c = λ h.
    let name = c.args.name.now in
    let names = names_kept c.self.inside.names in
    let found = subst (λ (ys : List (List ℕ)). (c.in-Err.i ≤ length ys)
    × (add bytes_cmp name ys ≡ insert ys c.in-Err.i name)) c.as_slice.ensures c.in-Err.ensures in
    absurd (listed_is_there name names c.in-Err.i c.self.invariant
    (subst (λ (ys : List (List ℕ)). name ∈ ys) (sym c.self.view_is) h) found.0 found.1)
