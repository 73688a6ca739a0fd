use Rattle.aprs_bookfile.proofs.Common.{◌≡◌, ◌∙◌, sym, subst, true, false, All, IsName}
use Rattle.aprs_bookfile.specs.Lines.{pieces}
use Rattle.aprs_bookfile.proofs.RowReading.{if_none, lacks_field, no_field, one_field}
use Rattle.aprs_bookfile.proofs.row_line.cut_other_names.Goals as goal

pub returns-in_err-names-clause-none : goal.returns-in_err-names-clause-none
returns-in_err-names-clause-none c = if_none c.from_residual.result
    (λ names rest h e. no_field c.args.text.now names rest c.in_err-names.ensures.none e)

pub returns-else-are_names-clause-none : goal.returns-else-are_names-clause-none
returns-else-are_names-clause-none c = λ names rest h e.
    let found = c.in_ok-names.ensures.some in
    let same = one_field c.args.text.now c.in_ok-names.names.now c.in_ok-names.rest.now names rest
    found.1 (lacks_field names h) found.0 e in
    let yes = c.are_names.ensures.1 (subst (λ n. All IsName (pieces 44 n)) (sym same.0) h) in
    let no : false ≡ true = sym c.if-are_names.false ∙ yes in cc
