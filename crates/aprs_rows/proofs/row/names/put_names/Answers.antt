use Rattle.aprs_rows.proofs.Common.{◌∙◌, ◌++◌, ap, sym, flat_map}
use Rattle.aprs_rows.proofs.Rows.{on_ok}
use Rattle.aprs_rows.proofs.JoinedNames.{joined_first, after_comma}
use Rattle.aprs_rows.proofs.row.names.put_names.Goals as goal

pub returns-clause-text : goal.returns-clause-text
returns-clause-text g c =
    let whole = joined_first c.args.names.now c.in-Some.first.now c.as_bytes.result.now
    c.in-Some.others.now c.in-Some.ensures.cases.0 c.as_bytes.ensures.value in
    on_ok c.put_further_names.result
    (λ h. h ∙ ap (λ t. t ++ flat_map after_comma c.in-Some.others.now)
    (c.in_ok-put.ensures ∙ ap (λ t. t ++ c.as_bytes.result.now) c.clear.ensures.items)
    ∙ sym whole)
    c.put_further_names.ensures.text
