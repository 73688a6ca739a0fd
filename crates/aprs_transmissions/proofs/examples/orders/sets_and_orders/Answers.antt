use Rattle.aprs_transmissions.proofs.Common.{inl, inr, refl, sym}
use Rattle.aprs_transmissions.specs.Examples.{rx1, rx2}
use Rattle.aprs_transmissions.proofs.Worked.{other_receiver}
use Rattle.aprs_transmissions.proofs.examples.orders.sets_and_orders.Goals as goal

pub returns-clause-misses_member : goal.returns-clause-misses_member
returns-clause-misses_member c = λ e. elim
    ((e rx2).1 (inr (inl refl))) [ inl d ↦ other_receiver (sym d) | inr k ↦ k ]

pub returns-clause-misses_repeat : goal.returns-clause-misses_repeat
returns-clause-misses_repeat c = λ o. let h = o.0 rx1 (inl refl) in cc h

pub returns-clause-misses_below_itself : goal.returns-clause-misses_below_itself
returns-clause-misses_below_itself c = λ h. cc h
