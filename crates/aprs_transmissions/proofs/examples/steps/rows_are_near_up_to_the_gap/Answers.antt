use Rattle.aprs_transmissions.proofs.Common.{◌≡◌, inl, inr, refl, sym, ◌∙◌, subst, ap, arith, rules}
use Rattle.aprs_transmissions.specs.Examples.{rx1, early_row, late_row}
use Rattle.aprs_transmissions.proofs.Worked.{same_key, other_receiver}
use Rattle.aprs_transmissions.specs.Lists.{◌∈◌}
use Rattle.aprs_transmissions.specs.Row.{Row}
use Rattle.aprs_transmissions.proofs.examples.steps.rows_are_near_up_to_the_gap.Goals as goal

pub returns : goal.returns
returns c = record {
  near = record { key = same_key; after = omega arith; before = omega arith };
  misses_far = search rules;
  fits = record {
    row = early_row;
    member = inl refl;
    near = record { key = same_key; after = omega arith; before = omega arith };
    listed = inl refl;
    only = λ x h n. elim h [
      | inl e ↦ sym e
      | inr k ↦
          elim k [
            | inl e ↦ absurd (let f = n.before in
                let g : x.first ≡ 30001 = ap (λ (y : Row). y.first) (sym e) in
                omega (arith, f, g))
            | inr j ↦ absurd j
          ]
    ];
  };
  misses_receiver = λ f.
      elim f.member [
        | inl e ↦ elim (subst (λ (x : Row). rx1 ∈ x.receivers) (sym e) f.listed) [
          | inl d ↦
              other_receiver d
          | inr k ↦ k
        ]
        | inr k ↦ k
      ];
  misses_two = λ f. let a =
      f.only early_row (inl refl) (record {
        key = same_key;
        after = omega arith;
        before = omega arith;
      }) in let b = f.only late_row (inr (inl refl))
      (record { key = refl; after = omega arith; before = omega arith }) in
      let n : 0 ≡ 30001 = ap (λ (x : Row). x.first) (a ∙ sym b) in omega (arith, n);
}
