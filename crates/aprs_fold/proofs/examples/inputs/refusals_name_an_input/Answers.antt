use Rattle.aprs_fold.proofs.Common.{◌≡◌, ℕ, List, [], ◌∷◌, ◌++◌, Some, refl, sym, subst, Counted}
use Rattle.std.specs.Prelude.{codes}
use Rattle.aprs_fold.specs.Examples.{begun_under_31, uncalled}
use Rattle.aprs_fold.specs.Inputs.{BeginsOther}
use Rattle.aprs_fold.proofs.Worked.{not_other, two_is_other}
use Rattle.aprs_fold.proofs.examples.inputs.refusals_name_an_input.Goals as goal

pub returns-clause-second : goal.returns-clause-second
returns-clause-second c = (uncalled (codes "APRSBOOK 2" ++ 10 ∷ []), refl, two_is_other)

pub returns-clause-misses_first : goal.returns-clause-misses_first
returns-clause-misses_first c = λ h.
    let e : Some (uncalled begun_under_31) ≡ Some h.0 = h.1 in
    let same : uncalled begun_under_31 ≡ h.0 = cc in
    not_other (subst (λ (f : Counted (List ℕ)). BeginsOther 31 (Some f.device)) (sym same) h.2)
