use Rattle.std.proofs.Common.{◌≡◌, List, ℕ, ◌+◌, arith, ap, ◌++◌, subst, ◌∙◌, sym, None, length}
use Rattle.aprs_ax25.specs.Frame.{FrameOf}
use Rattle.aprs_ax25.specs.FrameFault.{field_len, frame_fault, parts_of}
use Rattle.aprs_ax25.proofs.Sounds.{IsSound-len, frame_fault-IsSound}
use Rattle.aprs_ax25.proofs.Spellings.{FrameOf-frame_fault}
use Rattle.aprs_ax25.proofs.frame.Frame.with_info_at.Goals as goal

pub push_all-requires : goal.push_all-requires
push_all-requires c =
    let len = IsSound-len c.args.bytes.now
    (frame_fault-IsSound _ (FrameOf-frame_fault _ _ c.requires.frame)) in
    omega (arith, len, ap length c.new-held.ensures)

pub invariant_of-result : goal.invariant_of-result
invariant_of-result c =
    let P : List ℕ → Type 0 = λ f. (frame_fault f ≡ None) × FrameOf (parts_of f) f
    × (c.args.info_at ≡ field_len f + 2) in
    let e : c.push_all.new.out.items ≡ c.args.bytes.now = c.push_all.ensures.items
    ∙ ap (λ l. l ++ c.args.bytes.now) c.new-held.ensures in
    subst P (sym e) (FrameOf-frame_fault _ _ c.requires.frame, c.requires.frame, c.requires.info)
