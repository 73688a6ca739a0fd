-- The frame of a row's line.
use Rattle.std.proofs.Common.{◌≡◌, ◌∙◌, ◌+◌, ℕ, List, [], ◌∷◌, ◌++◌, take, drop, Ok, refl, sym, ap, subst, append_assoc, arith}
use Rattle.std.proofs.lemmas.List.{take-append-drop}
use Rattle.hex.proofs.HexLemmas.{decode_of-encode_lower}
use Rattle.hex.specs.Hex.{IsBytes, decode_of, encode_lower}
use Rattle.std.specs.List.{join_with_byte}
use Rattle.std.specs.Prelude.{IfSome, Option, None, Some, Result}
use Rattle.std.specs.Result.{result_ok}
use Rattle.aprs_ax25.specs.FrameFault.{frame_fault, frame_or_fault, unless_fault}
use Rattle.aprs_ax25.specs.declared.fault.FrameFault.{FrameFault}
use Rattle.aprs_io.specs.Cut.{Lacks}
use Rattle.aprs_log.specs.Moment.{moment_text_in}
use Rattle.aprs_log.specs.declared.moment_form.MomentForm.{MomentForm}
use Rattle.aprs_transmissions.specs.Row.{Row, last_moment}
use Rattle.aprs_bookfile.proofs.OneText.{has_line}
use Rattle.aprs_bookfile.proofs.Spellings.{row_fields_lack}
use Rattle.aprs_bookfile.specs.Text.{IsBookRow, row_line}

-- one text has one last field
same_last : (a b x y : List ℕ) → Lacks 32 b → Lacks 32 y → a ++ 32 ∷ b ≡ x ++ 32 ∷ y → b ≡ y
same_last [] b [] y h k e = cc
same_last [] b (z ∷ x) y h k e =
    let is : b ≡ x ++ 32 ∷ y = cc in
    absurd (has_line 32 x y (subst (Lacks 32) is h))
same_last (z ∷ a) b [] y h k e =
    let is : y ≡ a ++ 32 ∷ b = cc in
    absurd (has_line 32 a b (subst (Lacks 32) is k))
same_last (z ∷ a) b (w ∷ x) y h k e =
    let tail : a ++ 32 ∷ b ≡ x ++ 32 ∷ y = cc in
    same_last a b x y h k tail

last_field : (first last names who digits : List ℕ)
    → 84 ∷ 32 ∷ (first ++ 32 ∷ (last ++ 32 ∷ (names ++ 32 ∷ (who ++ 32 ∷ digits))))
    ≡ (84 ∷ 32 ∷ (first ++ 32 ∷ (last ++ 32 ∷ (names ++ 32 ∷ who)))) ++ 32 ∷ digits
last_field first last names who digits = ap (λ t. 84 ∷ 32 ∷ t) (sym (
    append_assoc first (32 ∷ (last ++ 32 ∷ (names ++ 32 ∷ who))) (32 ∷ digits)
    ∙ ap (λ t. first ++ 32 ∷ t) (append_assoc last (32 ∷ (names ++ 32 ∷ who)) (32 ∷ digits)
    ∙ ap (λ t. last ++ 32 ∷ t) (append_assoc names (32 ∷ who) (32 ∷ digits)))))

pub frame_is : (form : MomentForm) (x : Row) → IsBookRow form x → (line : List ℕ)
    → line ≡ row_line form x → (i : ℕ) (bytes : List ℕ) → Lacks 32 (drop (i + 1) line)
    → drop i line ≡ 32 ∷ drop (i + 1) line → IsBytes bytes
    → drop (i + 1) line ≡ encode_lower bytes → bytes ≡ x.greatest.frame
frame_is form x row line is i bytes lacks space all digits =
    let first = moment_text_in form x.first in
    let last = moment_text_in form (last_moment x) in
    let names = join_with_byte 44 x.receivers in
    let frame = x.greatest.frame in
    let cut : take i line ++ 32 ∷ drop (i + 1) line
    ≡ (84 ∷ 32 ∷ (first ++ 32 ∷ (last ++ 32 ∷ (names ++ 32 ∷ x.greatest.receiver))))
    ++ 32 ∷ encode_lower frame = ap (λ l. take i line ++ l) (sym space)
    ∙ take-append-drop i line ∙ is
    ∙ last_field first last names x.greatest.receiver (encode_lower frame) in
    let none : Lacks 32 (encode_lower frame) =
    (row_fields_lack form 32 x (omega arith) row.spelled).1.1.1.1.1.0 in
    let same : drop (i + 1) line ≡ encode_lower frame = same_last (take i line)
    (drop (i + 1) line)
    (84 ∷ 32 ∷ (first ++ 32 ∷ (last ++ 32 ∷ (names ++ 32 ∷ x.greatest.receiver))))
    (encode_lower frame) lacks none cut in
    let read : Ok bytes ≡ Ok frame = sym (decode_of-encode_lower bytes all)
    ∙ ap decode_of (sym digits ∙ same) ∙ decode_of-encode_lower frame row.spelled.bytes in
    cc

-- bytes that are read are the frame
pub frame_read : (o : Option (List ℕ)) (r : Result (List ℕ) FrameFault) (bytes : List ℕ)
    → o ≡ result_ok r → r ≡ frame_or_fault bytes → IfSome o (λ frame. frame ≡ bytes)
frame_read o r bytes e h = by (frame_fault bytes) (e ∙ ap result_ok h) where
  by : (f : Option FrameFault) → o ≡ result_ok (unless_fault bytes f)
      → IfSome o (λ frame. frame ≡ bytes)
  by None is = subst (λ k. IfSome k (λ frame. frame ≡ bytes)) (sym is) refl
  by (Some fault) is = subst (λ k. IfSome k (λ frame. frame ≡ bytes)) (sym is) tt
