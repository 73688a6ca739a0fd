use Rattle.aprs_rows.proofs.Common.{rules, ◌≡◌, sym, subst, greater, IsGreaterOf, is_greater_of}
use Rattle.aprs_rows.proofs.joining.greatest.GreatestJoin.join.Goals as goal

pub returns-clause-joined : goal.returns-clause-joined
returns-clause-joined c =
    let e : c.keep_greater.new.greatest ≡ greater c.args.self.now c.args.other.now = search rules in
    subst (IsGreaterOf c.args.self.now c.args.other.now) (sym e) (is_greater_of _ _)
