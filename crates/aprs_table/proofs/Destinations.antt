-- The letters of a destination's text, which is cut at its first dash.
use Rattle.aprs_table.proofs.Common.{◌≡◌, ℕ, Bool, true, false, cond, List, length, Option, Some, None, ◌≤◌, refl, sym, ap, arith}
use Rattle.std.proofs.Common.{take_all}
use Rattle.std.proofs.lemmas.Bool.Decides.{nat_tests}
use Rattle.std.specs.List.{position_or_len}
use Rattle.std.specs.Prelude.{unwrap_or}
use Rattle.aprs_ax25.specs.CallText.{before_dash}
use Rattle.aprs_io.specs.Cut.{Cut, cut_at, first_cut, has_byte, is_byte}

-- before a dash
pub with_dash : (text : List ℕ) (cut : Cut) → Some cut ≡ cut_at 45 text
    → cut.before ≡ before_dash text
unfolding cut_at
with_dash text cut e = go (has_byte 45 text) e
  where
    go : (t : Bool) → Some cut ≡ cond t (Some (first_cut 45 text)) None
        → cut.before ≡ before_dash text
    go true is = ap (λ (o : Option Cut). (unwrap_or o cut).before) is
    go false is = absurd cc

none_if : (b : Bool) (x : Cut) → None ≡ cond b (Some x) None → b ≡ false
none_if true x e = absurd cc
none_if false x e = refl

-- without one
pub no_dash : (text : List ℕ) → None ≡ cut_at 45 text → text ≡ before_dash text
unfolding cut_at
no_dash text e =
    let has : has_byte 45 text ≡ false = none_if (has_byte 45 text) (first_cut 45 text) e in
    let le : length text ≤ position_or_len (is_byte 45) text = grind (arith, nat_tests) in
    sym (take_all (position_or_len (is_byte 45) text) text le)
