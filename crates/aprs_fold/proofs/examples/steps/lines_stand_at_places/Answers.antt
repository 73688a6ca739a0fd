use Rattle.aprs_fold.proofs.Common.{refl}
use Rattle.std.specs.Prelude.{codes}
use Rattle.aprs_fold.proofs.examples.steps.lines_stand_at_places.Goals as goal

pub returns : goal.returns
returns c = record {
  line = record { after = codes "b"; is = refl; lacks = (refl, tt) };
  next = (record { after = codes "b"; is = refl; lacks = (refl, tt) }, refl);
  misses_next = λ h. let e = h.1 in absurd cc;
  misses_second = λ h. let e = h.lacks.1.0 in absurd cc;
}
