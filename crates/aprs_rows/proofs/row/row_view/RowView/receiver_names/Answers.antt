use Rattle.aprs_rows.proofs.Common.{◌∙◌, ◌++◌, ◌∷◌, [], ap, subst, sym, append_assoc, All, All-tail, IsName}
use Rattle.aprs_rows.specs.Names.{names_in}
use Rattle.aprs_rows.proofs.row.row_view.RowView.receiver_names.Goals as goal

pub loop-name-preserved : goal.loop-name-preserved
loop-name-preserved g c =
    let after = names_in c.in-Some.after.now in
    record {
      items = ap (λ ns. ns ++ after) c.in_ok-push_receiver.ensures
          ∙ append_assoc c.loop-name.names.items (c.in-Some.name.now ∷ []) after
          ∙ ap (λ ns. c.loop-name.names.items ++ ns) (sym c.in-Some.ensures.some)
          ∙ c.loop-name.invariant.items;
      each = All-tail IsName c.in-Some.name.now after
          (subst (All IsName) c.in-Some.ensures.some c.loop-name.invariant.each);
    }
