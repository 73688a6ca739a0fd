use Rattle.std.proofs.Common.{◌≡◌, ◌<◌, ◌⊎◌, ℕ, List, All, Option, None, Some, inl, inr, sym, ◌∙◌, refl}
use Rattle.aprs_ax25.specs.Laws.{IsReadAsFrame, IsReadAsNone}
use Rattle.aprs_ax25.specs.FrameFault.{frame_fault, parts_of}
use Rattle.aprs_ax25.specs.declared.fault.FrameFault.{FrameFault}
use Rattle.aprs_ax25.proofs.Sounds.{frame_fault-IsSound, sound-FrameOf}
use Rattle.aprs_ax25.proofs.Spellings.{FrameOf-parts_of, FrameOf-frame_fault}
use Rattle.aprs_ax25.proofs.laws.each_is_a_frame_or_refused.Goals as goal

cases : (bytes : List ℕ) → All (λ b. b < 256) bytes → (fault : Option FrameFault)
    → frame_fault bytes ≡ fault → IsReadAsFrame bytes ⊎ IsReadAsNone bytes
cases bytes small None e = inl (record {
  parts = parts_of bytes;
  reads = sound-FrameOf bytes (frame_fault-IsSound bytes e) small;
  only = λ others h. sym (FrameOf-parts_of others bytes h);
  faultless = e;
})
cases bytes small (Some fault) e = inr (record {
  fault = fault;
  first = e;
  none = λ others h. let ne : Some fault ≡ None = sym e ∙ FrameOf-frame_fault others bytes h in cc;
})

pub returns : goal.returns
returns c = λ bytes small. cases bytes small (frame_fault bytes) refl
