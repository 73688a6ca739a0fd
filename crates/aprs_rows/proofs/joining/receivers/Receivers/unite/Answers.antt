use Rattle.aprs_rows.proofs.Common.{rules, ◌≡◌, ◌∙◌, ℕ, List, sym, ap, subst, bytes_cmp, Ordered, IsBelow, union, ascending_union, IsUnited, bytes_total, bytes_exact, merged_ordered, merged_is_united, merged_is_union}
use Rattle.aprs_rows.specs.KeptNames.{names_kept}
use Rattle.aprs_rows.proofs.joining.receivers.Receivers.unite.Goals as goal

pub invariant_of-result : goal.invariant_of-result
invariant_of-result g c =
    let ours = names_kept c.self.inside.names in
    let theirs = names_kept c.other.inside.names in
    let made : c.merge_onto.new.names.items ≡ ascending_union bytes_cmp ours theirs =
    search rules in
    let e = c.of.ensures ∙ made in
    subst (Ordered (IsBelow bytes_cmp)) (sym e)
    (merged_ordered bytes_total bytes_exact _ _ c.self.invariant c.other.invariant)

pub returns-clause-union : goal.returns-clause-union
returns-clause-union g c =
    let ours = names_kept c.self.inside.names in
    let theirs = names_kept c.other.inside.names in
    let made : c.merge_onto.new.names.items ≡ ascending_union bytes_cmp ours theirs =
    search rules in
    let e = c.of.ensures ∙ made in
    e ∙ merged_is_union bytes_total bytes_exact ours theirs c.self.invariant c.other.invariant
    ∙ ap (λ t. union bytes_cmp t theirs) c.self.view_is
    ∙ ap (λ t. union bytes_cmp c.args.self.now t) c.other.view_is

pub returns-clause-joined : goal.returns-clause-joined
returns-clause-joined g c =
    let ours = names_kept c.self.inside.names in
    let theirs = names_kept c.other.inside.names in
    let made : c.merge_onto.new.names.items ≡ ascending_union bytes_cmp ours theirs =
    search rules in
    let e = c.of.ensures ∙ made in
    let new = names_kept c.of.result in
    subst (λ (t : List (List ℕ)). IsUnited bytes_cmp t c.args.other.now new) c.self.view_is
    (subst (λ (t : List (List ℕ)). IsUnited bytes_cmp ours t new) c.other.view_is
    (subst (λ (t : List (List ℕ)). IsUnited bytes_cmp ours theirs t) (sym e)
    (merged_is_united bytes_total bytes_exact ours theirs c.self.invariant c.other.invariant)))
