use Rattle.aprs_bookfile.proofs.Common.{◌≤◌, length, arith}
use Rattle.std.proofs.lemmas.Grind.{common_steps}
use Rattle.aprs_ax25.proofs.Sounds.{IsSound-len}
use Rattle.aprs_ax25.proofs.Spellings.{FrameOf-IsSound}
use Rattle.aprs_bookfile.proofs.Spellings.{name_len}
use Rattle.aprs_bookfile.proofs.TextParts.{tail_is}
use Rattle.aprs_bookfile.proofs.write.row_tail.Goals as goal

pub put_hex-end-requires : goal.put_hex-end-requires
put_hex-end-requires c =
    let frame = c.args.frame.now in
    let few = IsSound-len frame (FrameOf-IsSound _ frame c.requires.frame) in
    let short : length c.args.receiver.now ≤ 16 = name_len _ c.requires.name in
    grind (arith, common_steps)

pub bounds-room-end : goal.bounds-room-end
bounds-room-end c =
    let frame = c.args.frame.now in
    let few = IsSound-len frame (FrameOf-IsSound _ frame c.requires.frame) in
    let short : length c.args.receiver.now ≤ 16 = name_len _ c.requires.name in
    omega (arith, few, short, c.put-space.ensures.end, c.put_hex-end.ensures.end)

pub overflow_add-result : goal.overflow_add-result
overflow_add-result c =
    let frame = c.args.frame.now in
    let few = IsSound-len frame (FrameOf-IsSound _ frame c.requires.frame) in
    let short : length c.args.receiver.now ≤ 16 = name_len _ c.requires.name in
    omega (arith, few, short, c.put-space.ensures.end, c.put_hex-end.ensures.end)

pub shared_ref_as_front-result : goal.shared_ref_as_front-result
shared_ref_as_front-result c =
    let frame = c.args.frame.now in
    let few = IsSound-len frame (FrameOf-IsSound _ frame c.requires.frame) in
    let short : length c.args.receiver.now ≤ 16 = name_len _ c.requires.name in
    grind (arith, common_steps)

pub returns-clause-text : goal.returns-clause-text
returns-clause-text c =
    let frame = c.args.frame.now in
    let few = IsSound-len frame (FrameOf-IsSound _ frame c.requires.frame) in
    let short : length c.args.receiver.now ≤ 16 = name_len _ c.requires.name in
    tail_is c.args.room.now c.put-space.new.out c.put_hex-end.new.out c.args.receiver.now _
    c.put-space.result c.put_hex-end.result (grind (arith, common_steps))
    (grind (arith, common_steps)) (grind (arith, common_steps)) c.put-space.ensures.bytes
    c.put_hex-end.ensures.digits

pub returns-clause-spelled : goal.returns-clause-spelled
returns-clause-spelled c =
    let frame = c.args.frame.now in
    let sound = FrameOf-IsSound _ frame c.requires.frame in
    record {
      name_is = c.requires.name;
      bytes_are = c.put_hex-end.ensures.bytes;
      few = (omega (arith, sound.within, sound.size.0), IsSound-len frame sound);
      frame_is = sound;
    }
