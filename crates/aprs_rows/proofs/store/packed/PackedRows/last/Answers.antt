use Rattle.aprs_rows.proofs.Common.{◌∙◌, ◌-◌, sym, ap, subst, arith, drop, length, None, Some, last_or, slice_get}
use Rattle.aprs_rows.specs.Packed.{IsMarked, mark_row}
use Rattle.aprs_rows.proofs.Packed.{last_mark}
use Rattle.aprs_rows.proofs.store.packed.PackedRows.last.Goals as goal

pub overflow_sub-len : goal.overflow_sub-len
overflow_sub-len g c =
    let bytes = c.self.inside.bytes in
    let ends = last_mark _ bytes.items c.in_ok-mark.mark.now (c.in_ok-mark.ensures.value
    ∙ ap (λ ms. slice_get ms (length ms - 1)) c.deref.ensures.value) c.self.invariant.0 in
    omega (arith, ends.within, c.len.ensures, c.size.ensures, bytes.ok.0)

pub of_mark-requires : goal.of_mark-requires
of_mark-requires g c =
    let m = c.in_ok-mark.mark.now in
    let bytes = c.self.inside.bytes in
    let ends = last_mark _ bytes.items m (c.in_ok-mark.ensures.value
    ∙ ap (λ ms. slice_get ms (length ms - 1)) c.deref.ensures.value) c.self.invariant.0 in
    subst (IsMarked m) (sym (c.split_at.ensures.back ∙ (λ i. drop ((c.len.ensures ∙ bytes.ok.0) i
    - c.size.ensures i) (c.deref-2.ensures.value i)))) ends.fits

pub returns-clause-some : goal.returns-clause-some
returns-clause-some g c =
    let m = c.in_ok-mark.mark.now in
    let bytes = c.self.inside.bytes in
    let ends = last_mark _ bytes.items m (c.in_ok-mark.ensures.value
    ∙ ap (λ ms. slice_get ms (length ms - 1)) c.deref.ensures.value) c.self.invariant.0 in
    ap (last_or None) (sym c.self.view_is) ∙ ends.last
    ∙ ap (λ bs. Some (mark_row m bs)) (sym (c.split_at.ensures.back
    ∙ (λ i. drop ((c.len.ensures ∙ bytes.ok.0) i - c.size.ensures i) (c.deref-2.ensures.value i))))
    ∙ (λ t. Some (sym c.of_mark.ensures t))
