use Rattle.aprs_book.proofs.Common.{◌∙◌, ◌++◌, ◌∷◌, [], ap, sym, subst, arith, All, join_with_byte, IsName, Row, IsSoundRow}
use Rattle.aprs_summary.proofs.Collected.{on_ok}
use Rattle.aprs_book.proofs.InStore.{is_short}
use Rattle.aprs_book.proofs.stored.put_row.Goals as goal

pub view_of-requires-clause-text : goal.view_of-requires-clause-text
view_of-requires-clause-text g c =
    c.as_slice.ensures.value ∙ c.in_ok-put_names.ensures.text
    ∙ ap (join_with_byte 44) c.names.ensures

pub view_of-requires-clause-names : goal.view_of-requires-clause-names
view_of-requires-clause-names g c =
    subst (All IsName) c.names.ensures c.in_ok-put_names.ensures.names

pub push-requires-clause-sound : goal.push-requires-clause-sound
push-requires-clause-sound g c =
    subst (λ (x : Row). IsSoundRow x) (sym c.view_of.ensures) c.requires

pub push-requires-clause-short : goal.push-requires-clause-short
push-requires-clause-short g c =
    is_short c.args.row.now c.view_of.result c.as_slice.result.now
    (c.as_slice.ensures.value ∙ c.in_ok-put_names.ensures.text
    ∙ ap (join_with_byte 44) c.names.ensures) c.view_of.ensures
    (omega (arith, c.as_slice.ensures.len, c.len.ensures, c.if-len.false))

pub returns-clause-put : goal.returns-clause-put
returns-clause-put g c =
    on_ok c.push.result
    (λ h. h ∙ ap (λ (x : Row). c.args.packed.now ++ x ∷ []) c.view_of.ensures)
    c.push.ensures.pushed
