use Rattle.aprs_bookfile.proofs.Common.{◌∙◌, ◌++◌, ◌∷◌, take, ap, sym, arith}
use Rattle.std.proofs.lemmas.List.{length-take-le}
use Rattle.aprs_bookfile.proofs.RowReading.{has_moment}
use Rattle.aprs_bookfile.proofs.row_line.cut_last.Goals as goal

pub slice_bounds-cut_known-end : goal.slice_bounds-cut_known-end
slice_bounds-cut_known-end c =
    let has = has_moment c.args.form c.args.first c.args.text.now c.args.before.now
    c.requires.before in
    let long = has.long in
    sym (length-take-le c.size_in.result c.args.before.now (omega (arith, long, c.size_in.ensures)))

pub returns-in-Some-clause-some : goal.returns-in-Some-clause-some
returns-in-Some-clause-some c =
    let has = has_moment c.args.form c.args.first c.args.text.now c.args.before.now
    c.requires.before in
    let own = c.in-Some.ensures.1 ∙ ap (λ n. take n c.args.before.now) c.size_in.ensures
    ∙ has.field in
    (c.requires.writable, c.in-Some.ensures.2 ∙ ap (λ l. l ++ 32 ∷ c.in-Some.rest.now) own)
