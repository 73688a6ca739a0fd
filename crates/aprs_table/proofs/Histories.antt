-- Lemmas on the lines of a history.
use Rattle.aprs_table.proofs.Common.{◌≡◌, ℕ, List, [], ◌∷◌, ◌++◌, map, Option, refl, ap, ◌∙◌, join_with_byte, option_map, Call, call_text, Parts, parts_of, hop_of, Row, last_moment, moment_text, reading_of, Value, mic_e_view}
use Rattle.aprs_mice.specs.Reader.{mic_e_or_none}
use Rattle.aprs_mice.specs.declared.mic_e.MicE.{MicE}
use Rattle.aprs_table.specs.History.{history_line, told_line, via_text}
use Rattle.aprs_table.specs.SpacedLine.{line_with_text}

-- ---- fields

-- a line of the `told` fields and those of a report
pub told_text : (kind : List ℕ) (told : List (List ℕ)) (text : List ℕ) {others more : List (List ℕ)}
    → others ≡ more
    → line_with_text kind (told ++ others) text ≡ line_with_text kind (told ++ more) text
told_text kind told text e = ap (λ l. line_with_text kind (told ++ l) text) e

-- ---- rows

-- what a row is read as
pub row_told : (x : Row) (first last : ℕ) (who via frame info : List ℕ) (source : Call)
    (told : List (List ℕ)) (v : Value) → frame ≡ x.greatest.frame → first ≡ x.first
    → last ≡ last_moment x → who ≡ join_with_byte 44 x.receivers
    → source ≡ (parts_of frame).source.call
    → via ≡ via_text (map hop_of (parts_of frame).digipeaters)
    → told ≡ moment_text first ∷ moment_text last ∷ who ∷ call_text source ∷ via ∷ []
    → info ≡ (parts_of frame).info → v ≡ reading_of info
    → told_line told (parts_of frame) v ≡ history_line x
row_told x first last who via frame info source told v f start end w s h t i r =
    rw (r, i, t, h, s, w, end, start, f) refl

-- what is read of a frame of these parts
pub mic_e_read : (p : Parts) (to : Call) (info : List ℕ) (r : Option MicE)
    → to ≡ p.destination.call → info ≡ p.info
    → option_map mic_e_view r ≡ mic_e_or_none to.characters info
    → option_map mic_e_view r ≡ mic_e_or_none p.destination.call.characters p.info
mic_e_read p to info r t i is = is
    ∙ ap (λ (call : Call). mic_e_or_none call.characters info) t
    ∙ ap (mic_e_or_none p.destination.call.characters) i
