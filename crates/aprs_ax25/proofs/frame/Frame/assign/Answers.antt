use Rattle.std.proofs.Common.{◌≡◌, ◌<◌, ◌+◌, ℕ, List, All, arith, ap, ◌++◌, subst, ◌∙◌, sym, None, length}
use Rattle.std.proofs.lemmas.List.{get_or_default}
use Rattle.aprs_ax25.specs.Frame.{FrameOf}
use Rattle.aprs_ax25.specs.FrameFault.{field_len, frame_fault, parts_of}
use Rattle.aprs_ax25.proofs.Sounds.{IsSound-len, frame_fault-IsSound, sound-FrameOf}
use Rattle.aprs_ax25.proofs.frame.Frame.assign.Goals as goal

pub push_all-requires : goal.push_all-requires
push_all-requires c =
    let len = IsSound-len c.args.bytes.now
    (frame_fault-IsSound c.args.bytes.now c.requires.frame) in
    omega (arith, len, ap length c.clear.ensures)

pub invariant_of-self : goal.invariant_of-self
invariant_of-self c =
    let P : List ℕ → Type 0 = λ f. (frame_fault f ≡ None) × FrameOf (parts_of f) f
    × (c.args.info_at ≡ field_len f + 2) in
    let e : c.push_all.new.out.items ≡ c.args.bytes.now = c.push_all.ensures.items
    ∙ ap (λ l. l ++ c.args.bytes.now) c.clear.ensures in
    let small : All (λ b. b < 256) c.args.bytes.now =
    λ k d lt. omega (arith, get_or_default c.args.bytes.now k d 0 lt, c.type_inv.bytes k) in
    subst P (sym e) (
      c.requires.frame,
      sound-FrameOf c.args.bytes.now
          (frame_fault-IsSound c.args.bytes.now c.requires.frame) small,
      c.requires.info,
    )
