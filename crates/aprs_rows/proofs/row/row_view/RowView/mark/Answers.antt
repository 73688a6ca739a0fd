use Rattle.aprs_rows.proofs.Common.{◌∙◌, refl, sym, ap, length, arith, join_with_byte, join_with_byte-slice_split, FrameOf-IsSound, Row}
use Rattle.aprs_ax25.specs.FrameRef.{frame_bytes}
use Rattle.aprs_rows.specs.Names.{row_of_text}
use Rattle.aprs_ax25.proofs.Sounds.{IsSound-len}
use Rattle.aprs_rows.proofs.Packed.{notes}
use Rattle.aprs_rows.proofs.row.row_view.RowView.mark.Goals as goal

pub overflow_cast-result : goal.overflow_cast-result
overflow_cast-result c =
    let text = ap length (sym (join_with_byte-slice_split 44 c.self.inside.names.now)
    ∙ ap (λ (x : Row). join_with_byte 44 x.receivers) c.self.view_is) in
    omega (arith, c.requires.short, text)

pub overflow_cast-result-2 : goal.overflow_cast-result-2
overflow_cast-result-2 c =
    let len = IsSound-len _ (FrameOf-IsSound _ _ c.bytes.ensures.frame) in
    omega (arith, len, ap length c.bytes.ensures.value)

pub returns : goal.returns
returns c =
    let row = c.self.inside in
    let text = ap length (sym (join_with_byte-slice_split 44 row.names.now)
    ∙ ap (λ (x : Row). join_with_byte 44 x.receivers) c.self.view_is) in
    notes (record {
      first = row.first;
      last = c.moment.result;
      receivers = length row.names.now;
      frame = length c.bytes.result.now;
      receiver = length c.receiver.result.now;
      info_at = c.info_at.result;
    }) c.args.self.now row.names.now row.greatest.receiver (frame_bytes c.frame-frame.result)
    ((λ i. row_of_text row.first (c.moment.ensures i) row.names.now row.greatest.receiver
    (c.frame-frame.ensures i)) ∙ c.self.view_is)
    refl (ap length c.receiver.ensures.value) (ap length c.bytes.ensures.value)
    (omega (arith, c.requires.short, text)) c.info_at.ensures.value c.requires.sound
    (record {
      names_are = c.self.invariant.0;
      name_is = c.receiver.ensures.name;
      frame_is = c.bytes.ensures.frame;
    })
