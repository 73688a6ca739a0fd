use Rattle.aprs_bookfile.proofs.Common.{◌∙◌, arith, subst, IsWritable, Millis}
use Rattle.hex.specs.Hex.{IsBytes}
use Rattle.aprs_ax25.specs.UiFrame.{IsUiFrame}
use Rattle.aprs_ax25.proofs.Sounds.{IsSound-len}
use Rattle.aprs_ax25.proofs.Spellings.{FrameOf-IsSound}
use Rattle.aprs_bookfile.proofs.lent_row.is_spelled.Goals as goal

pub returns : goal.returns
returns c = λ some.
    let frame = c.args.row.now.greatest.frame in
    let sound = subst IsUiFrame c.frame.ensures (FrameOf-IsSound _ _ c.bytes.ensures.frame) in
    record {
      spelled = record {
        first = subst (IsWritable Millis) c.first.ensures c.are_writable.ensures.0;
        last = subst (IsWritable Millis) c.last.ensures c.are_writable.ensures.1;
        some = some;
        receivers = c.receivers-names.ensures.each;
        receiver = c.receiver-receiver.ensures.name;
        bytes = subst IsBytes (c.bytes.ensures.value ∙ c.frame.ensures) c.are_bytes.ensures;
        few = (omega (arith, sound.within, sound.size.0), IsSound-len frame sound);
      };
      frame = sound;
    }
