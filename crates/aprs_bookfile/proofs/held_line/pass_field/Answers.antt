use Rattle.aprs_bookfile.proofs.Common.{arith}
use Rattle.aprs_bookfile.proofs.RowPlaces.{most_few}
use Rattle.aprs_bookfile.proofs.held_line.pass_field.Goals as goal

pub further-requires : goal.further-requires
further-requires c = omega (
  arith,
  most_few c.args.place.field,
  c.count_more-count.ensures.short (omega (arith, c.if-count-eq0.false)),
)
