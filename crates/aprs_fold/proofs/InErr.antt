-- What an error arm returns.
use Rattle.aprs_fold.proofs.Common.{◌≡◌, Result, Ok, Err, IfErr, sym, subst}
use Rattle.std.specs.Result.{IsErrAnd}

-- what holds of the error that a `?` returns holds of the result
pub in_err : {T E : Type 0} (r : Result T E) (P : E → Type 0) {f : E} → IsErrAnd r (λ y. y ≡ f)
    → P f → IfErr r P
in_err (Ok x) P h p = absurd h
in_err (Err y) P h p = subst P (sym h) p
