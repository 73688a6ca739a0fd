use Rattle.aprs_table.proofs.Common.{refl, [], ◌∷◌}
use Rattle.std.proofs.lemmas.List.Elements.{All-from_recursion, recursion_from_All}
use Rattle.aprs_table.proofs.Frees.{Plain}
use Rattle.aprs_table.proofs.examples.cells.fields_have_no_tab.Goals as goal

pub returns : goal.returns
returns c = record {
  beside = All-from_recursion Plain (8 ∷ 11 ∷ [])
      ((λ e. absurd cc, λ e. absurd cc), ((λ e. absurd cc, λ e. absurd cc), tt));
  misses_tab = λ h. (recursion_from_All Plain (97 ∷ 9 ∷ []) h).1.0.0 refl;
  misses_lf = λ h. (recursion_from_All Plain (97 ∷ 10 ∷ []) h).1.0.1 refl;
}
