use Rattle.aprs_rows.proofs.Common.{◌∙◌, ◌∷◌, ◌+◌, ap, sym, arith, take, take_rest}
use Rattle.aprs_rows.specs.Names.{names_in}
use Rattle.aprs_rows.proofs.NameTexts.{first_name, only_name}
use Rattle.aprs_rows.proofs.row.names.cut_name.Goals as goal

pub returns-in-Some-clause-some : goal.returns-in-Some-clause-some
returns-in-Some-clause-some c =
    let t = c.args.text.now in
    let i = c.in-Some.i in
    let found = c.in-Some.ensures in
    first_name i (i + 1) t found.0.high (omega arith)
    (λ k h. found.0.before k (omega arith) h) found.1
    ∙ ap (λ r. take i t ∷ names_in r) (sym (take_rest t (i + 1)))

pub returns-in-None-clause-none : goal.returns-in-None-clause-none
returns-in-None-clause-none c =
    only_name c.args.text.now (λ k h. c.in-None.ensures k (omega arith) h)
