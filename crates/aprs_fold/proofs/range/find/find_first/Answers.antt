use Rattle.std.proofs.Common.{sym, subst}
use Rattle.std.proofs.lemmas.Option.{IfSome_then}
use Rattle.std.specs.Prelude.{not}
use Rattle.aprs_fold.specs.Range.{is_from, is_until}
use Rattle.aprs_fold.specs.Cuts.{CutsRows}
use Rattle.aprs_fold.proofs.Stretches.{cuts_from}
use Rattle.aprs_fold.proofs.range.find.find_first.Goals as goal

pub returns-in-Some-clause-finds : goal.returns-in-Some-clause-finds
returns-in-Some-clause-finds g c =
    IfSome_then c.find_cut.result c.find_cut.ensures.finds (λ at finds bytes known.
    subst (λ f. CutsRows (λ call. not (is_from f call)) bytes c.args.start at)
    (sym c.in-Some.is) (cuts_from c.in-Some.field-0 bytes c.args.start at
    (subst (λ f. CutsRows (is_until f) bytes c.args.start at) c.in-Some.is
    (finds bytes known))))
