use Rattle.std.proofs.Common.{arith}
use Rattle.std.proofs.lemmas.List.{get_or_default}
use Rattle.aprs_ax25.proofs.Spellings.{FrameOf-frame_fault}
use Rattle.aprs_ax25.proofs.frame_ref.FrameRef.with_info_at.Goals as goal

pub invariant_of-result : goal.invariant_of-result
invariant_of-result c = record {
  sound = FrameOf-frame_fault _ _ c.requires.frame;
  octets = λ k d lt.
      omega (arith, get_or_default c.args.bytes.now k d 0 lt, c.type_inv.bytes k);
  place = c.requires.info;
}
