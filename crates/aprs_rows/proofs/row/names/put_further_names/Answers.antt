use Rattle.aprs_rows.proofs.Common.{◌≡◌, ◌∙◌, ◌++◌, ◌∷◌, [], arith}
use Rattle.aprs_rows.proofs.JoinedNames.{more_text, more_names}
use Rattle.aprs_rows.proofs.row.names.put_further_names.Goals as goal

pub loop-name-preserved : goal.loop-name-preserved
loop-name-preserved g c =
    let names = c.args.names.now in
    let i = c.loop-name.name-index in
    let put : c.put-in-loop-name.new.text.items
    ≡ (c.loop-name.text.items ++ 44 ∷ []) ++ c.name-item.result =
    c.in_ok-put-2.ensures ∙ (λ t. c.in_ok-put.ensures t ++ c.as_bytes.ensures.value t) in
    record {
      text = put ∙ more_text c.args.text.now.items c.loop-name.text.items names i
          c.name-item.result (omega arith) c.name-item.is c.loop-name.invariant.text;
      names = more_names names i c.name-item.result (omega arith) c.name-item.is
          c.loop-name.invariant.names c.as_bytes.ensures.name;
    }
