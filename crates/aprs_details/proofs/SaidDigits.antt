-- Digits that are read are said so, and what is said so is read.
use Rattle.aprs_details.proofs.Common.{◌≡◌, ℕ, List, [], ◌∷◌, ◌++◌, length, Some, None, refl, ap, subst, ◌∙◌, eqb, eqb-true, and_parts, after_some, guarded_some, chunk_found, chunk_takes, arith}
use Rattle.aprs_details.specs.declared.precision.Precision.{Precision}
use Rattle.aprs_details.specs.Precision.{precision_in, precision_at}
use Rattle.aprs_details.specs.SaidDigits.{BeginsWithDigits}
use Rattle.aprs_details.proofs.FirstReadings.{FindsWhatBegins}

in_five : (field rest text : List ℕ) (x : Precision) → length field ≡ 5 → text ≡ field ++ rest →
    precision_in field ≡ Some x → BeginsWithDigits x text
unfolding precision_in
in_five [] rest text x five parts e = absurd cc
in_five (a ∷ []) rest text x five parts e = absurd cc
in_five (a ∷ b ∷ []) rest text x five parts e = absurd cc
in_five (a ∷ b ∷ c ∷ []) rest text x five parts e = absurd cc
in_five (a ∷ b ∷ c ∷ d ∷ []) rest text x five parts e = absurd cc
in_five (a ∷ b ∷ c ∷ d ∷ f ∷ g ∷ more) rest text x five parts e = absurd (omega (arith, five))
in_five (a ∷ b ∷ c ∷ d ∷ f ∷ []) rest text x five parts e =
    after_some _ _ _ _ e (λ scale e1 r1. after_some _ _ _ _ r1 (λ latitude e2 r2.
    after_some _ _ _ _ r2 (λ longitude e3 r3.
    let g = guarded_some _ _ _ r3 in
    let m = and_parts (eqb a 33) (eqb f 33) g.0 in
    subst (λ (x : Precision). BeginsWithDigits x text) g.1 (record {
      datum = b;
      north = c;
      east = d;
      rest = rest;
      whole =
          parts ∙ ap (λ (k : ℕ). k ∷ b ∷ c ∷ d ∷ f ∷ rest) (eqb-true a 33 m.0)
          ∙ ap (λ (k : ℕ). 33 ∷ b ∷ c ∷ d ∷ k ∷ rest) (eqb-true f 33 m.1);
      scale = e1;
      latitude = e2;
      longitude = e3;
    }))))

digits_found : (text : List ℕ) (x : Precision) → precision_at text ≡ Some x → BeginsWithDigits x text
unfolding precision_at
digits_found text x e = after_some _ _ _ _ e (λ field e1 r1.
    let f = chunk_found 5 text field e1 in
    in_five field.0 field.1 text x f.len f.parts r1)

digits_take : (text : List ℕ) (x : Precision) → BeginsWithDigits x text → precision_at text ≡ Some x
unfolding precision_at precision_in
digits_take text x h =
    ap precision_at h.whole
    ∙ rw (
      chunk_takes 5 (33 ∷ h.datum ∷ h.north ∷ h.east ∷ 33 ∷ []) h.rest refl,
      h.scale,
      h.latitude,
      h.longitude,
    ) refl

nothing : precision_at [] ≡ None
unfolding precision_at
nothing = refl

pub digits_are_what_begins : FindsWhatBegins BeginsWithDigits precision_at
digits_are_what_begins = record {
  found = λ text x e. digits_found text x e;
  takes = λ text x h. digits_take text x h;
  nothing = nothing;
}
