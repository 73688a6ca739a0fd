use Rattle.aprs_bookfile.proofs.Common.{◌≡◌, ◌∙◌, sym, subst, true, false, IsName}
use Rattle.aprs_bookfile.proofs.RowReading.{if_none, lacks_name, no_field, one_field}
use Rattle.aprs_bookfile.proofs.row_line.cut_name.Goals as goal

pub returns-in_err-name-clause-none : goal.returns-in_err-name-clause-none
returns-in_err-name-clause-none c = if_none c.from_residual.result
    (λ name rest h e. no_field c.args.text.now name rest c.in_err-name.ensures.none e)

pub returns-else-is_name-clause-none : goal.returns-else-is_name-clause-none
returns-else-is_name-clause-none c = λ name rest h e.
    let found = c.in_ok-name.ensures.some in
    let same = one_field c.args.text.now c.in_ok-name.name.now c.in_ok-name.rest.now name rest
    found.1 (lacks_name name h) found.0 e in
    let yes = c.is_name.ensures.1 (subst IsName (sym same.0) h) in
    let no : false ≡ true = sym c.if-is_name.false ∙ yes in cc
