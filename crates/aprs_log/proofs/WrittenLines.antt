-- Lemmas on the line that is written for a reception.
use Rattle.aprs_log.proofs.Common.{◌≡◌, ℕ, zero, suc, ◌/◌, ◌%◌, ◌<◌, ◌≤◌, ◌≢◌, Bool, true, false, if◌then◌else◌, List, [], ◌∷◌, ◌++◌, length, slice_index, append_assoc, Ok, refl, arith, sym, ap, ◌∙◌, subst, IsPlain, is_special, is_escape, is_frame_end, spelling_of_byte, kiss_text, spelling_of-all, spelling_of-cut, FrameOf, Parts, frame_or_fault, unless_fault, IsBytes, decode_of, encode_lower, lower_digits, decode_of-encode_lower, nat_tests, MAX_UI_FRAME}
use Rattle.aprs_kiss.specs.Spelling.{spelling_of}
use Rattle.hex.specs.Hex.{encode_with}
use Rattle.aprs_ax25.proofs.Spellings.{FrameOf-frame_fault}
use Rattle.aprs_log.specs.Moment.{moment_text}
use Rattle.aprs_log.specs.CivilMoment.{IsMomentText}
use Rattle.aprs_log.specs.Receiver.{IsName}
use Rattle.aprs_log.specs.Reception.{Received}
use Rattle.aprs_log.specs.Line.{heard_or_passed, line_of, written_line}
use Rattle.aprs_log.specs.declared.line.Line.TheVariants as line
use Rattle.aprs_log.proofs.Lines.{line_of-syntax}
use Rattle.aprs_log.proofs.Frames.{frame_in-kiss_text}
use Rattle.aprs_log.proofs.Moments.{text-IsTextOf}
use Rattle.aprs_log.specs.declared.line.TheConstants.{MAX_LINE}

-- ---- the digits of a frame's bytes, cut at each byte that isn't sent as itself

-- the digits of bytes and of more of them
digits-append : (xs ys : List ℕ) → encode_lower (xs ++ ys) ≡ encode_lower xs ++ encode_lower ys
unfolding encode_with
digits-append [] ys = refl
digits-append (x ∷ xs) ys =
    ap (λ l. slice_index lower_digits (x / 16) ∷ slice_index lower_digits (x % 16) ∷ l)
    (digits-append xs ys)

-- where the digits of `put` were put after those before, those of `more` are to be put yet
put_more : (all before now rest put more : List ℕ) → rest ≡ put ++ more
    → before ++ encode_lower rest ≡ all → now ≡ before ++ encode_lower put
    → now ++ encode_lower more ≡ all
put_more all before now rest put more cut was is =
    ap (λ l. l ++ encode_lower more) is ∙ append_assoc before (encode_lower put) (encode_lower more)
    ∙ ap (λ l. before ++ l) (sym (digits-append put more))
    ∙ ap (λ l. before ++ encode_lower l) (sym cut) ∙ was

-- the frame end and the type byte
pub put_first : (frame begun now : List ℕ) → now ≡ begun ++ 99 ∷ 48 ∷ 48 ∷ 48 ∷ []
    → now ++ encode_lower (spelling_of frame ++ 0xC0 ∷ []) ≡ begun ++ encode_lower (kiss_text frame)
unfolding encode_with
put_first frame begun now is =
    put_more (begun ++ encode_lower (kiss_text frame)) begun now (kiss_text frame) (0xC0 ∷ 0 ∷ [])
    (spelling_of frame ++ 0xC0 ∷ []) refl refl is

-- the bytes before the first one that isn't sent as itself, and what is sent for that
pub put_cut : (all rest plain after before now next : List ℕ) (mark : ℕ) → IsPlain plain
    → rest ≡ plain ++ mark ∷ after → before ++ encode_lower (spelling_of rest ++ 0xC0 ∷ []) ≡ all
    → now ≡ before ++ encode_lower plain → next ≡ now ++ encode_lower (spelling_of_byte mark)
    → next ++ encode_lower (spelling_of after ++ 0xC0 ∷ []) ≡ all
put_cut all rest plain after before now next mark free cut was is next_is =
    let left = spelling_of after ++ 0xC0 ∷ [] in
    put_more all now next (spelling_of_byte mark ++ left) (spelling_of_byte mark) left refl
    (put_more all before now (spelling_of rest ++ 0xC0 ∷ []) plain (spelling_of_byte mark ++ left)
    (spelling_of-cut rest plain after (0xC0 ∷ []) mark free cut) was is) next_is

-- the bytes after the last one that isn't sent as itself, and the frame end
pub put_last : (all rest plain before now last : List ℕ) → IsPlain plain → rest ≡ plain
    → before ++ encode_lower (spelling_of rest ++ 0xC0 ∷ []) ≡ all
    → now ≡ before ++ encode_lower plain → last ≡ now ++ 99 ∷ 48 ∷ [] → last ≡ all
unfolding encode_with
put_last all rest plain before now last free cut was is last_is =
    last_is ∙ put_more all before now (spelling_of rest ++ 0xC0 ∷ []) plain (0xC0 ∷ [])
    (spelling_of-all rest plain (0xC0 ∷ []) free cut) was is

-- what FEND and FESC are sent as
pub escape-end : (now before : List ℕ) (byte : ℕ) → byte ≡ 0xC0
    → now ≡ before ++ 100 ∷ 98 ∷ 100 ∷ 99 ∷ []
    → now ≡ before ++ encode_lower (spelling_of_byte byte)
unfolding encode_with
escape-end now before byte e is = rw e is

pub escape-escape : (now before : List ℕ) (byte : ℕ) → byte ≢ 0xC0 → is_special byte ≡ true
    → now ≡ before ++ 100 ∷ 98 ∷ 100 ∷ 100 ∷ []
    → now ≡ before ++ encode_lower (spelling_of_byte byte)
unfolding encode_with
escape-escape now before byte other special is =
    let e : byte ≡ 0xDB = grind (arith, nat_tests, special) in
    rw e is

-- ---- what is sent for bytes are bytes

bytes-append : (xs ys : List ℕ) → IsBytes xs → IsBytes ys → IsBytes (xs ++ ys)
bytes-append [] ys are more i = more i
bytes-append (x ∷ xs) ys are more zero = are zero
bytes-append (x ∷ xs) ys are more (suc i) = bytes-append xs ys (λ k. are (suc k)) more i

two_bytes : (x y : ℕ) → x < 256 → y < 256 → IsBytes (x ∷ y ∷ [])
two_bytes x y p q zero = p
two_bytes x y p q (suc zero) = q
two_bytes x y p q (suc (suc i)) = omega arith

one_byte : (x : ℕ) → x < 256 → IsBytes (x ∷ [])
one_byte x p zero = p
one_byte x p (suc i) = omega arith

bytes-if : (c : Bool) (xs ys : List ℕ) → IsBytes xs → IsBytes ys → IsBytes (if c then xs else ys)
bytes-if true xs ys are others = are
bytes-if false xs ys are others = others

bytes-spelling : (xs : List ℕ) → IsBytes xs → IsBytes (spelling_of xs)
unfolding spelling_of
bytes-spelling [] are = λ i. omega arith
bytes-spelling (x ∷ xs) are =
    bytes-append (spelling_of_byte x) (spelling_of xs)
    (bytes-if (is_frame_end x) _ _ (two_bytes 0xDB 0xDC (omega arith) (omega arith))
    (bytes-if (is_escape x) _ _ (two_bytes 0xDB 0xDD (omega arith) (omega arith))
    (one_byte x (are zero))))
    (bytes-spelling xs (λ k. are (suc k)))

pub reads_back : (frame : List ℕ) → IsBytes frame
    → decode_of (encode_lower (kiss_text frame)) ≡ Ok (kiss_text frame)
reads_back frame are =
    decode_of-encode_lower (kiss_text frame)
    (bytes-append (0xC0 ∷ 0 ∷ []) (spelling_of frame ++ 0xC0 ∷ [])
    (two_bytes 0xC0 0 (omega arith) (omega arith))
    (bytes-append (spelling_of frame) (0xC0 ∷ []) (bytes-spelling frame are)
    (one_byte 0xC0 (omega arith))))

-- ---- a written line reads back

-- what a reception's parts are
pub record IsReal (x : Received) : Type 0 where
  pub moment : IsMomentText x.moment (moment_text x.moment)
  pub receiver : IsName x.receiver
  pub frame : frame_or_fault x.frame ≡ Ok x.frame
  pub few : length x.frame ≤ 1023

pub real : (x : Received) (text : List ℕ) → text ≡ moment_text x.moment → IsMomentText x.moment text
    → IsName x.receiver → frame_or_fault x.frame ≡ Ok x.frame → length x.frame ≤ MAX_UI_FRAME → IsReal x
real x text e moment receiver frame few = record {
  moment = subst (IsMomentText x.moment) e moment;
  receiver = receiver;
  frame = frame;
  few = omega arith;
}

pub line_of-written : (x : Received) → IsReal x
    → decode_of (encode_lower (kiss_text x.frame)) ≡ Ok (kiss_text x.frame)
    → length (written_line x) ≤ MAX_LINE → line_of (written_line x) ≡ Ok (line.Heard x)
line_of-written x h digits short =
    line_of-syntax (written_line x) x.moment x.receiver (kiss_text x.frame) (record {
      short = short;
      digits = encode_lower (kiss_text x.frame);
      fields = (
        h.receiver,
        (
          moment_text x.moment,
          text-IsTextOf x.moment (moment_text x.moment) h.moment,
          append_assoc (moment_text x.moment) (32 ∷ x.receiver)
              (32 ∷ encode_lower (kiss_text x.frame)),
        ),
      );
      is_hex = digits;
    })
    ∙ ap (λ r. Ok (heard_or_passed x.moment x.receiver r))
    (frame_in-kiss_text x.frame h.few h.frame)

-- ---- a frame's bytes are read as it

pub frame_of-is : (frame : List ℕ) (p : Parts) → FrameOf p frame → frame_or_fault frame ≡ Ok frame
frame_of-is frame p is = ap (unless_fault frame) (FrameOf-frame_fault p frame is)
