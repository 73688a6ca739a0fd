use Rattle.std.proofs.Common.{arith, length, ◌∙◌}
use Rattle.std.proofs.lemmas.List.{length-map}
use Rattle.aprs_ax25.specs.Frame.{FrameOf}
use Rattle.aprs_ax25.specs.Making.{made_parts, hop_address}
use Rattle.aprs_ax25.proofs.Making.{made, made-info_at, made-spelled, make_fault-IsWithin}
use Rattle.aprs_ax25.proofs.frame.Frame.spell.Goals as goal

frame : (c : goal.After-push_all)
    → FrameOf (made_parts c.args.destination.now c.args.source.now c.args.hops.now c.args.info.now)
    c.push_all.new.out.items
frame c =
    let within = make_fault-IsWithin (length c.args.hops.now) (length c.args.info.now) c.requires in
    let count = length-map c.args.hops.now hop_address in
    record {
      parts = record {
        destination = c.push_field.ensures.each.0;
        source = c.push_field.ensures.each.1.0;
        digipeaters = c.push_field.ensures.each.1.1;
        few = omega (arith, within.few);
        some = within.some;
        most = within.most;
      };
      spelled = made-spelled c.args.destination.now c.args.source.now c.args.hops.now
          c.args.info.now _ _ _ _
          c.push_field.ensures.field c.push.ensures.items c.push-2.ensures.items
          c.push_all.ensures.items;
    }

pub invariant_of-result : goal.invariant_of-result
invariant_of-result c =
    let is = made _ _ (frame c).parts (frame c).spelled in
    let info = made-info_at c.args.destination.now c.args.source.now c.args.hops.now
    c.args.info.now _ _ _ _ (frame c).parts c.push_field.ensures.field c.push.ensures.items
    c.push-2.ensures.items c.push_all.ensures.items in
    (is.0, is.1, c.len-info_at.ensures.value ∙ info)

pub returns : goal.returns
returns c = frame c
