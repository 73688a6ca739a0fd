use Rattle.std.proofs.Common.{arith}
use Rattle.aprs_io.proofs.Shows.{shown-each}
use Rattle.aprs_ax25.specs.FrameFault.{parts_of}
use Rattle.aprs_ax25.specs.FrameRef.{frame_bytes}
use Rattle.aprs_ax25.specs.Hop.{hop_of, hop_text}
use Rattle.aprs_ax25.proofs.hops.push_hops_text.Goals as goal

pub loop-i-preserved : goal.loop-i-preserved
loop-i-preserved g c =
    let digipeaters = (parts_of (frame_bytes c.args.frame.now)).digipeaters in
    record {
      text = shown-each hop_text hop_of c.loop-i.out.items c.push_hop.new.out.items
          digipeaters c.loop-i.i (omega (arith, c.loop-i-test.true, c.hops-i-end.ensures.value))
          c.push_hop.ensures.text c.args.out.now.items c.loop-i.invariant.text;
      most = omega (arith, c.push_hop.ensures.most, c.loop-i.invariant.most);
    }
