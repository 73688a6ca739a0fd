use Rattle.aprs_lists.proofs.Common.{arith, inl, inr, refl}
use Rattle.aprs_lists.proofs.examples.orders.runs_are_in_order.Goals as goal

pub returns-clause-message : goal.returns-clause-message
returns-clause-message c = inl refl

pub returns-clause-first : goal.returns-clause-first
returns-clause-first c = inr (refl, omega arith)

pub returns-clause-misses_same : goal.returns-clause-misses_same
returns-clause-misses_same c (inl e) = absurd cc
returns-clause-misses_same c (inr x) = omega (arith, x.1)
