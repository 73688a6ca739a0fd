-- Proofs of the laws on frames that are written and read.
use Rattle.aprs_kiss.proofs.Common.{◌≡◌, ℕ, ◌<◌, ◌≤◌, ◌∙◌, sym, ap, refl, List, [], ◌∷◌, ◌++◌, length, append_assoc, arith, inl, inr, Ok, Err, false, lt-ltb, le-ltb}
use Rattle.aprs_kiss.specs.Spelling.{HasNoEnd, is_frame_end, is_escape, kiss_text, spelling_of, spelling_of_byte}
use Rattle.aprs_kiss.specs.Stream.{judgements_of, rest_of}
use Rattle.aprs_kiss.specs.Judgement.{Judgement, judgement_of, judgement_by}
use Rattle.aprs_kiss.specs.Laws.{BeginsEmpty, JudgedInParts, LeftInParts, ReadBack, ReadBackLong, ReadWhole, EndedStream}
use Rattle.aprs_kiss.specs.declared.fault.PassFault.TheVariants.{TooLong}
use Rattle.aprs_kiss.proofs.Escapes.{is_true_or_not, unspelled-of}
use Rattle.aprs_kiss.proofs.Pieces.{HasNoEnd-nil, HasNoEnd-append, HasNoEnd-one, cuts, rest_of-none, rest_of-end, judgements_of-append, judgements_of-none, judgements_of-empty, judgements_of-end}

pub begins_empty : BeginsEmpty
begins_empty = (judgements_of-none [] HasNoEnd-nil, rest_of-none [] HasNoEnd-nil)

pub judged_in_parts : JudgedInParts
judged_in_parts = judgements_of-append

pub left_in_parts : LeftInParts
left_in_parts prefix rest = (cuts prefix rest).rest

-- ---- a spelling is a piece

no_end_of_two : (code : ℕ) → is_frame_end code ≡ false → HasNoEnd (0xDB ∷ code ∷ [])
no_end_of_two code h =
    HasNoEnd-append (0xDB ∷ []) (code ∷ []) (HasNoEnd-one 0xDB refl) (HasNoEnd-one code h)

no_end_of_byte : (b : ℕ) → HasNoEnd (spelling_of_byte b)
no_end_of_byte b =
    elim (is_true_or_not (is_frame_end b)) as (λ _. HasNoEnd (spelling_of_byte b)) [
      | inl e ↦ rw e (no_end_of_two 0xDC refl)
      | inr e ↦ elim (is_true_or_not (is_escape b)) as (λ _. HasNoEnd (spelling_of_byte b)) [
        | inl d ↦ rw (e, d) (no_end_of_two 0xDD refl)
        | inr d ↦ rw (e, d) (HasNoEnd-one b e)
      ]
    ]

pub no_end : (bytes : List ℕ) → HasNoEnd (spelling_of bytes)
unfolding spelling_of
no_end [] = HasNoEnd-nil
no_end (b ∷ bytes) =
    HasNoEnd-append (spelling_of_byte b) (spelling_of bytes) (no_end_of_byte b) (no_end bytes)

-- the type byte of data on port 0 is sent as itself
typed : (frame : List ℕ) → spelling_of (0 ∷ frame) ≡ 0 ∷ spelling_of frame
unfolding spelling_of
typed frame = refl

-- ---- the judgements of a text that was written

after_end : (u : List ℕ) → judgements_of (0xC0 ∷ u) ≡ judgements_of u
after_end u =
    judgements_of-append (0xC0 ∷ []) u
    ∙ ap (λ l. l ++ judgements_of (rest_of (0xC0 ∷ []) ++ u)) judgements_of-empty
    ∙ ap (λ d. judgements_of (d ++ u))
    (rest_of-end [] [] HasNoEnd-nil ∙ rest_of-none [] HasNoEnd-nil)

judgements_of_text : (frame : List ℕ)
    → judgements_of (kiss_text frame) ≡ judgement_of (spelling_of (0 ∷ frame)) ∷ []
judgements_of_text frame =
    after_end (0 ∷ spelling_of frame ++ 0xC0 ∷ [])
    ∙ ap (λ l. judgements_of (l ++ 0xC0 ∷ [])) (sym (typed frame))
    ∙ judgements_of-end (spelling_of (0 ∷ frame)) (no_end (0 ∷ frame))
    (rw (typed frame) (omega arith))

judgements_after : (stream frame : List ℕ) (j : Judgement) → rest_of stream ≡ []
    → judgement_of (spelling_of (0 ∷ frame)) ≡ j
    → judgements_of (stream ++ kiss_text frame) ≡ judgements_of stream ++ j ∷ []
judgements_after stream frame j r e =
    judgements_of-append stream (kiss_text frame)
    ∙ ap (λ d. judgements_of stream ++ judgements_of (d ++ kiss_text frame)) r
    ∙ ap (λ l. judgements_of stream ++ l) (judgements_of_text frame ∙ ap (λ j. j ∷ []) e)

judged_short : (frame : List ℕ) → length frame ≤ 1023
    → judgement_of (spelling_of (0 ∷ frame)) ≡ Ok (record { port = 0; bytes = frame })
unfolding judgement_of
judged_short frame l =
    let n : length (0 ∷ frame) ≤ 1024 = omega arith in
    ap judgement_by (unspelled-of (0 ∷ frame)) ∙ rw (le-ltb 1024 (length (0 ∷ frame)) n) refl

judged_long : (frame : List ℕ) → 1023 < length frame
    → judgement_of (spelling_of (0 ∷ frame)) ≡ Err TooLong
unfolding judgement_of
judged_long frame l =
    let n : 1024 < length (0 ∷ frame) = omega arith in
    ap judgement_by (unspelled-of (0 ∷ frame)) ∙ rw (lt-ltb 1024 (length (0 ∷ frame)) n) refl

pub read_back : ReadBack
read_back stream frame r l = judgements_after stream frame _ r (judged_short frame l)

pub read_back_long : ReadBackLong
read_back_long stream frame r l = judgements_after stream frame _ r (judged_long frame l)

pub ended_stream : EndedStream
ended_stream stream =
    (cuts stream (0xC0 ∷ [])).rest
    ∙ rest_of-end (rest_of stream) [] (cuts stream []).whole
    ∙ rest_of-none [] HasNoEnd-nil

pub read_whole : ReadWhole
read_whole stream frame =
    ap rest_of (sym (append_assoc stream (0xC0 ∷ 0 ∷ spelling_of frame) (0xC0 ∷ [])))
    ∙ ended_stream (stream ++ 0xC0 ∷ 0 ∷ spelling_of frame)
