-- Lemmas on the frame in a line's bytes.
use Rattle.aprs_log.proofs.Common.{◌≡◌, ◌≢◌, ℕ, ◌+◌, ◌-◌, ◌<◌, ◌≤◌, Bool, true, false, List, [], ◌∷◌, ◌++◌, length, take, drop, Result, Ok, Err, cond, refl, arith, sym, ap, ◌∙◌, take-append-drop, slice_index, subst, Option, Some, take_rest, take-length, CutsPlain, IsPlain, kiss_text, spelling_of-all, begins_empty, judged_in_parts, left_in_parts, read_back, read_whole, is_nonempty, EndsPiece, Judgement, frame_or_fault}
use Rattle.aprs_kiss.specs.Spelling.{spelling_of}
use Rattle.aprs_kiss.specs.Stream.{rest_of, judgements_of}
use Rattle.std.proofs.Common.{length-append}
use Rattle.aprs_kiss.specs.Answer.{judgements_in}
use Rattle.std.specs.Borrow.{Bor}
use Rattle.aprs_kiss.specs.declared.fault.PassFault.{PassFault}
use Rattle.aprs_kiss.specs.declared.reader.Fed.{Fed}
use Rattle.aprs_kiss.specs.declared.reader.Fed.TheVariants.{Nothing, Frame, Passed}
use Rattle.aprs_log.specs.FrameEnds.{has_other_than_ends}
use Rattle.aprs_log.specs.Line.{frame_in, frame_or_reason, only_frame}
use Rattle.aprs_log.specs.Fault.{reason_of_pass}
use Rattle.aprs_log.specs.declared.fault.Reason.{Reason}
use Rattle.aprs_log.specs.declared.fault.Reason.TheVariants as reason
use Rattle.aprs_log.proofs.Pieces.{ends_alone, rest_nil, judges_other}

unless_unended : (b : Bool) (x y : Result (List ℕ) Reason) → b ≡ false → cond b x y ≡ y
unless_unended true x y e = absurd (let f : true ≡ false = e in cc)
unless_unended false x y e = refl

frame_in-ended : (bytes : List ℕ) → is_nonempty (rest_of bytes) ≡ false
    → frame_in bytes ≡ only_frame (judgements_of bytes)
unfolding frame_in
frame_in-ended bytes e = unless_unended (is_nonempty (rest_of bytes)) _ _ e

pub frame_in-unended : (bytes : List ℕ) → is_nonempty (rest_of bytes) ≡ true
    → Err reason.Unended ≡ frame_in bytes
unfolding frame_in
frame_in-unended bytes e = rw e refl

-- ---- what a line's bytes hold, of which `used` were used up to the end of a piece

-- that is the only piece so far, and its judgement is j
record UsedTo (used : List ℕ) (j : Judgement) : Type 0 where
  judged : judgements_of used ≡ j ∷ []
  left : rest_of used ≡ []

two_frames : (j : Judgement) (js : List Judgement) → 0 < length js
    → only_frame (j ∷ js) ≡ Err reason.TwoFrames
two_frames j [] h = absurd (omega (arith, h))
two_frames j (k ∷ js) h = refl

module _ (used more : List ℕ) (j : Judgement) (u : UsedTo used j)
    (e : is_nonempty (rest_of (used ++ more)) ≡ false) where
  judged_then : judgements_of (used ++ more) ≡ j ∷ judgements_of more
  judged_then =
      judged_in_parts used more ∙ ap (λ js. js ++ judgements_of (rest_of used ++ more)) u.judged
      ∙ ap (λ l. j ∷ judgements_of (l ++ more)) u.left

  frame_in-one : has_other_than_ends more ≡ false → only_frame (j ∷ []) ≡ frame_in (used ++ more)
  frame_in-one alone =
      let none = ap (λ js. j ∷ js) (ends_alone more alone) in
      sym (frame_in-ended (used ++ more) e ∙ ap only_frame (judged_then ∙ none))

  frame_in-two : has_other_than_ends more ≡ true → Err reason.TwoFrames ≡ frame_in (used ++ more)
  frame_in-two other =
      let rest = rest_nil (rest_of (used ++ more)) e in
      let moved : rest_of (used ++ more) ≡ rest_of more
      = left_in_parts used more ∙ ap (λ l. rest_of (l ++ more)) u.left in
      let some = judges_other more (sym moved ∙ rest) other in
      sym (frame_in-ended (used ++ more) e ∙ ap only_frame judged_then
      ∙ two_frames j (judgements_of more) some)

-- ---- what a reader returns of a line's bytes at once

pub record FedOnce (bytes : List ℕ) (n : ℕ) (found : List Judgement) : Type 0 where
  pub judged : judgements_of (take n bytes) ≡ found
  pub whole : found ≡ [] → n ≡ length bytes
  pub ends : found ≢ [] → EndsPiece (take n bytes)

pub once : (bytes : List ℕ) (n : ℕ) (found : List Judgement) → judgements_of (take n bytes) ≡ found
    → (found ≡ [] → n ≡ length bytes) → (found ≢ [] → EndsPiece (take n bytes))
    → FedOnce bytes n found
once bytes n found judged whole ends = record { judged = judged; whole = whole; ends = ends }

after_used : List ℕ → ℕ → List ℕ
after_used bytes n = take (length bytes - n) (drop n bytes)

again : (bytes : List ℕ) (n : ℕ) → take n bytes ++ after_used bytes n ≡ bytes
unfolding after_used
again bytes n = ap (λ l. take n bytes ++ l) (take_rest bytes n) ∙ take-append-drop n bytes

used_to : (bytes : List ℕ) (n : ℕ) (j : Judgement) → FedOnce bytes n (j ∷ [])
    → UsedTo (take n bytes) j
used_to bytes n j f =
    record { judged = f.judged; left = (f.ends (λ e. let h : ⊥ = absurd cc in h)).left }

module _ (bytes : List ℕ) (n : ℕ) (e : false ≡ is_nonempty (rest_of bytes))
  where
    judged_nothing : FedOnce bytes n [] → Err reason.NoFrame ≡ frame_in bytes
    judged_nothing f =
        let all : take n bytes ≡ bytes = ap (λ k. take k bytes) (f.whole refl)
        ∙ take-length bytes in
        let none = ap judgements_of (sym all) ∙ f.judged in
        sym (frame_in-ended bytes (sym e) ∙ ap only_frame none)

    ended : is_nonempty (rest_of (take n bytes ++ after_used bytes n)) ≡ false
    ended = ap (λ l. is_nonempty (rest_of l)) (again bytes n) ∙ sym e

    judged_one : (j : Judgement) → FedOnce bytes n (j ∷ [])
        → false ≡ has_other_than_ends (take (length bytes - n) (drop n bytes))
        → only_frame (j ∷ []) ≡ frame_in bytes
    unfolding after_used
    judged_one j f alone =
        frame_in-one (take n bytes) (after_used bytes n) j (used_to bytes n j f) ended
        (sym alone)
        ∙ ap frame_in (again bytes n)

    judged_two : (j : Judgement) → FedOnce bytes n (j ∷ [])
        → true ≡ has_other_than_ends (take (length bytes - n) (drop n bytes))
        → Err reason.TwoFrames ≡ frame_in bytes
    unfolding after_used
    judged_two j f other =
        frame_in-two (take n bytes) (after_used bytes n) j (used_to bytes n j f) ended
        (sym other)
        ∙ ap frame_in (again bytes n)

    -- where all is used, nothing is left
    used_up : n ≡ length bytes
        → has_other_than_ends (take (length bytes - n) (drop n bytes)) ≡ false
    used_up all =
        let none : length bytes - n ≡ 0 = omega (arith, all) in
        ap (λ k. has_other_than_ends (take k (drop n bytes))) none

    pub fed_two : (fed : Fed) → FedOnce bytes n (judgements_in fed)
        → true ≡ has_other_than_ends (take (length bytes - n) (drop n bytes))
        → Err reason.TwoFrames ≡ frame_in bytes
    fed_two Nothing f other =
        absurd (let no : true ≡ false = other ∙ used_up (f.whole refl) in cc)
    fed_two (Frame port frame) f other = judged_two _ f other
    fed_two (Passed fault) f other = judged_two _ f other

    fed_one : (fed : Fed) → FedOnce bytes n (judgements_in fed)
        → false ≡ has_other_than_ends (take (length bytes - n) (drop n bytes))
        → frame_in bytes ≡ only_frame (judgements_in fed)
    fed_one Nothing f alone = sym (judged_nothing f)
    fed_one (Frame port frame) f alone = sym (judged_one _ f alone)
    fed_one (Passed fault) f alone = sym (judged_one _ f alone)

    pub fed_nothing : (fed : Fed) → FedOnce bytes n (judgements_in fed)
        → false ≡ has_other_than_ends (take (length bytes - n) (drop n bytes)) → fed ≡ Nothing
        → frame_in bytes ≡ Err reason.NoFrame
    fed_nothing fed f alone is = fed_one fed f alone ∙ ap (λ x. only_frame (judgements_in x)) is

    pub fed_passed : (fed : Fed) → FedOnce bytes n (judgements_in fed)
        → false ≡ has_other_than_ends (take (length bytes - n) (drop n bytes))
        → (fault : PassFault) → fed ≡ Passed fault → frame_in bytes ≡ Err (reason_of_pass fault)
    fed_passed fed f alone fault is = fed_one fed f alone
        ∙ ap (λ x. only_frame (judgements_in x)) is

    pub fed_frame : (fed : Fed) → FedOnce bytes n (judgements_in fed)
        → false ≡ has_other_than_ends (take (length bytes - n) (drop n bytes))
        → (port : ℕ) (frame : Bor (List ℕ)) → fed ≡ Frame port frame
        → frame_in bytes ≡ frame_or_reason (frame_or_fault frame.now)
    fed_frame fed f alone port frame is = fed_one fed f alone
        ∙ ap (λ x. only_frame (judgements_in x)) is

-- ---- what is written for a frame

-- it holds the frame's bytes
frame_in-written : (frame : List ℕ) → length frame ≤ 1023
    → frame_in (kiss_text frame) ≡ frame_or_reason (frame_or_fault frame)
frame_in-written frame len =
    let data_frame = Ok (record { port = 0; bytes = frame }) in
    let found = read_back [] frame begins_empty.1 len
    ∙ ap (λ js. js ++ data_frame ∷ []) begins_empty.0 in
    let rest = ap is_nonempty (read_whole [] frame) in
    frame_in-ended (kiss_text frame) rest ∙ ap only_frame found

-- it holds that frame
pub frame_in-kiss_text : (frame : List ℕ) → length frame ≤ 1023
    → frame_or_fault frame ≡ Ok frame → frame_in (kiss_text frame) ≡ Ok frame
frame_in-kiss_text frame len is = frame_in-written frame len ∙ ap frame_or_reason is

-- bytes that are sent as themselves, between two frame ends, are what is written
pub frame_in-plain : (bytes ended frame : List ℕ) → bytes ≡ 0xC0 ∷ 0 ∷ ended
    → IsPlain frame → ended ≡ frame ++ 0xC0 ∷ [] → length ended ≤ 1024
    → frame_in bytes ≡ frame_or_reason (frame_or_fault frame)
frame_in-plain bytes ended frame all plain is few =
    let written : spelling_of frame ++ 0xC0 ∷ [] ≡ frame ++ 0xC0 ∷ []
    = spelling_of-all frame frame (0xC0 ∷ []) plain refl in
    let same : bytes ≡ kiss_text frame = all ∙ ap (λ l. 0xC0 ∷ 0 ∷ l) (is ∙ sym written) in
    let len : length ended ≡ length frame + 1 = ap length is ∙ length-append frame (0xC0 ∷ []) in
    ap frame_in same ∙ frame_in-written frame (omega arith)

two_bytes : (bytes : List ℕ) → 2 ≤ length bytes → slice_index bytes 0 ≡ 0xC0
    → slice_index bytes 1 ≡ 0
    → bytes ≡ 0xC0 ∷ 0 ∷ drop 2 bytes
two_bytes [] len e f = absurd (omega arith)
two_bytes (a ∷ []) len e f = absurd (omega arith)
two_bytes (a ∷ b ∷ rest) len e f = cc

nothing : (l : List ℕ) → length l ≡ 0 → l ≡ []
nothing [] e = refl
nothing (x ∷ l) e = absurd (omega arith)

-- so are these bytes, where the cut at the first byte that isn't sent as itself leaves nothing
pub frame_in-cut : (bytes ended frame : List ℕ) (cut : Option (ℕ × Bor (List ℕ)))
    (end : ℕ) (after : Bor (List ℕ)) → 2 ≤ length bytes → slice_index bytes 0 ≡ 0xC0
    → slice_index bytes 1 ≡ 0 → ended ≡ drop 2 bytes → IsPlain frame → CutsPlain ended frame cut
    → cut ≡ Some (end, after) → end ≡ 0xC0 → length after.now ≡ 0 → length ended ≤ 1024
    → frame_in bytes ≡ frame_or_reason (frame_or_fault frame)
frame_in-cut bytes ended frame cut end after two first kind is plain cuts e last none few =
    let parts = (subst (CutsPlain ended frame) e cuts).0 in
    let tail : ended ≡ frame ++ 0xC0 ∷ []
    = parts ∙ ap (λ l. frame ++ end ∷ l) (nothing after.now none)
    ∙ ap (λ n. frame ++ n ∷ []) last in
    frame_in-plain bytes ended frame (two_bytes bytes two first kind
    ∙ ap (λ l. 0xC0 ∷ 0 ∷ l) (sym is))
    plain tail few
