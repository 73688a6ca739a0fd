use Rattle.aprs_bookfile.proofs.Common.{◌≤◌, ◌<◌, arith, length, refl, subst}
use Rattle.aprs_bookfile.specs.TextFault.{most_ahead}
use Rattle.aprs_bookfile.proofs.RowStreams.{after_is}
use Rattle.aprs_bookfile.proofs.row_stream.RowStream.refuse_rest.Goals as goal

pub returns-clause-fault : goal.returns-clause-fault
returns-clause-fault g c =
    rw c.fault.ensures (
      refl,
      λ rows t h. after_is c.args.self.now.reader rows t _ c.requires.done
          (subst (λ l. 0 < length l) c.as_slice.ensures.value
          (grind (arith, c.is_empty.ensures, c.if-is_empty.false)))
          (subst (λ l. length l ≤ most_ahead) c.as_slice.ensures.value c.as_slice.ensures.few) h,
    )
