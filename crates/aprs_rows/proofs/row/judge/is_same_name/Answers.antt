use Rattle.aprs_rows.proofs.Common.{◌≡◌, ◌-◌, false, List, ℕ, length, get_or, refl, ap, is_eq, Ordering, Less, Equal, Greater, bytes_cmp, bytes_exact}
use Rattle.aprs_rows.specs.Refusal.{is_same_name}
use Rattle.aprs_rows.proofs.row.judge.is_same_name.Goals as goal

-- names that differ
differ : (r s : List ℕ) → (r ≡ s → ⊥) → false ≡ is_same_name r s
differ r s unlike = by (bytes_cmp r s) refl where
  by : (o : Ordering) → bytes_cmp r s ≡ o → false ≡ is_eq o
  by Less e = refl
  by Equal e = absurd (unlike (bytes_exact r s e))
  by Greater e = refl

pub returns-then-size-other : goal.returns-then-size-other
returns-then-size-other c =
    differ c.args.name.now c.args.other.now (λ e. c.if-size-other.true (ap length e))

pub returns-then-name-size : goal.returns-then-name-size
returns-then-name-size c =
    let last = length c.args.name.now - 1 in
    differ c.args.name.now c.args.other.now
    (λ e. c.if-name-size.true (ap (λ l. get_or l last 0) e))
