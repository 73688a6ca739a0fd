use Rattle.aprs_details.proofs.Common.{arith, lit≤}
use Rattle.aprs_details.proofs.examples.decimals.nearest_numbers_are_within_half.Goals as goal

pub returns-clause-whole : goal.returns-clause-whole
returns-clause-whole c = record { not_above = lit≤ tt; not_below = lit≤ tt }

pub returns-clause-half : goal.returns-clause-half
returns-clause-half c = record { not_above = lit≤ tt; not_below = lit≤ tt }

pub returns-clause-just_under : goal.returns-clause-just_under
returns-clause-just_under c = record { not_above = lit≤ tt; not_below = lit≤ tt }

pub returns-clause-just_over : goal.returns-clause-just_over
returns-clause-just_over c = record { not_above = lit≤ tt; not_below = lit≤ tt }

pub returns-clause-misses_half : goal.returns-clause-misses_half
returns-clause-misses_half c = λ h. omega (arith, h.not_below)

pub returns-clause-misses_under : goal.returns-clause-misses_under
returns-clause-misses_under c = λ h. omega (arith, h.not_above)

pub returns-clause-misses_over : goal.returns-clause-misses_over
returns-clause-misses_over c = λ h. omega (arith, h.not_below)

pub returns-clause-misses_nought : goal.returns-clause-misses_nought
returns-clause-misses_nought c = λ h. omega (arith, h.not_above)
