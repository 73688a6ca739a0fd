use Rattle.std.proofs.Common.{below_more}
use Rattle.aprs_bookfile.proofs.Common.{◌∙◌, sym, arith}
use Rattle.aprs_bookfile.proofs.RowPlaces.{further_by, further_none}
use Rattle.aprs_bookfile.proofs.row_place.Place.count_more.Goals as goal

pub loop-i-init : goal.loop-i-init
loop-i-init c = below_more _ _ (λ n h. absurd (omega arith))
    (further_none c.args.self c.args.bytes.now)

pub loop-i-preserved : goal.loop-i-preserved
loop-i-preserved c = below_more _ _ c.loop-i.invariant
    (further_by c.args.self c.args.bytes.now c.loop-i.i (omega arith) (omega arith)
    (sym c.is_byte_of.ensures ∙ c.if-not-is_byte_of.false)
    (c.loop-i.invariant c.loop-i.i (omega arith)))

pub returns-then-not-is_byte_of-clause-more : goal.returns-then-not-is_byte_of-clause-more
returns-then-not-is_byte_of-clause-more c = λ n h. c.loop-i.invariant n (omega arith)

pub returns-clause-more : goal.returns-clause-more
returns-clause-more c = λ n h. c.loop-i.invariant n (omega arith)

pub returns-then-not-is_byte_of-clause-short : goal.returns-then-not-is_byte_of-clause-short
returns-then-not-is_byte_of-clause-short c = λ some. omega (arith, some)

pub returns-clause-short : goal.returns-clause-short
returns-clause-short c = λ some. omega (arith, some)
