-- A line's bytes carry a frame exactly where the reading of the line finds it.
use Rattle.aprs_log.proofs.Common.{◌≡◌, ℕ, zero, suc, ◌<◌, ◌/◌, ◌%◌, ◌==◌, Bool, true, false, List, [], ◌∷◌, ◌++◌, length, map, filter, replicate, Option, None, Some, Result, Ok, Err, All, inl, inr, refl, sym, ap, ◌∙◌, append_assoc, subst, arith, eqb-true, if◌then◌else◌, nat_lt, flat_map, frame_or_fault, DataFrame, Judgement, data_frame_of, judgement_by, HasNoEnd, is_escape, is_frame_end, spelling_of_byte, is_nonempty, is_true_or_not, spelling_of-unspelled, unspelled-of, HasNoEnd-append, HasNoEnd-nil, HasNoEnd-one, made_so, pieces_of-end, pieces_of-none, rest_of-end, rest_of-none}
use Rattle.aprs_kiss.specs.Judgement.{judgement_of}
use Rattle.aprs_kiss.specs.Spelling.{spelling_of}
use Rattle.aprs_kiss.specs.Stream.{judgements_of, pieces_of, rest_of}
use Rattle.aprs_kiss.specs.Unspelling.{spelled_bytes}
use Rattle.std.proofs.Common.{append-nil, length-append}
use Rattle.aprs_ax25.specs.UiFrame.{IsUiFrame}
use Rattle.aprs_ax25.specs.declared.fault.FrameFault.{FrameFault}
use Rattle.aprs_ax25.proofs.Sounds.{IsSound-len}
use Rattle.aprs_ax25.proofs.UiFrames.{frame_of-is, frame_of-same, is-frame_of}
use Rattle.aprs_kiss.specs.declared.fault.PassFault.TheVariants.{TooLong, NotData}
use Rattle.aprs_kiss.specs.Sizes.{most_bytes}
use Rattle.aprs_kiss.proofs.Holding.{judgement_of-plain}
use Rattle.aprs_log.specs.Line.{frame_in, frame_in_piece, frame_or_reason, only_frame}
use Rattle.aprs_log.specs.declared.fault.Reason.TheVariants as reason
use Rattle.aprs_log.specs.LineText.{CarriesFrame}

-- ---- frame ends before and after

j_empty : (u : List ℕ) → judgements_of (0xC0 ∷ u) ≡ judgements_of u
unfolding judgements_of
j_empty u = rw (pieces_of-end [] u HasNoEnd-nil) refl

j_before : (n : ℕ) (u : List ℕ) → judgements_of (replicate n 0xC0 ++ u) ≡ judgements_of u
j_before zero u = refl
j_before (suc n) u = j_empty (replicate n 0xC0 ++ u) ∙ j_before n u

r_before : (n : ℕ) (u : List ℕ) → rest_of (replicate n 0xC0 ++ u) ≡ rest_of u
r_before zero u = refl
r_before (suc n) u = rest_of-end [] (replicate n 0xC0 ++ u) HasNoEnd-nil ∙ r_before n u

j_none : judgements_of [] ≡ []
unfolding judgements_of
j_none = rw (pieces_of-none [] HasNoEnd-nil) refl

j_ends : (n : ℕ) → judgements_of (replicate n 0xC0) ≡ []
j_ends n = ap judgements_of (sym (append-nil (replicate n 0xC0))) ∙ j_before n [] ∙ j_none

r_ends : (n : ℕ) → rest_of (replicate n 0xC0) ≡ []
r_ends n = ap rest_of (sym (append-nil (replicate n 0xC0))) ∙ r_before n []
    ∙ rest_of-none [] HasNoEnd-nil

j_piece : (p u : List ℕ) → HasNoEnd p → 0 < length p
    → judgements_of (p ++ 0xC0 ∷ u) ≡ judgement_of p ∷ judgements_of u
unfolding judgements_of
j_piece [] u h l = absurd (omega (arith, l))
j_piece (x ∷ xs) u h l = rw (pieces_of-end (x ∷ xs) u h) refl

-- ---- what is spelled

no_end_of_byte : (b : ℕ) → HasNoEnd (spelling_of_byte b)
no_end_of_byte b =
    elim (is_true_or_not (is_frame_end b)) as (λ _. HasNoEnd (spelling_of_byte b)) [
      | inl e ↦ rw e (HasNoEnd-append (0xDB ∷ []) (0xDC ∷ []) (HasNoEnd-one 0xDB refl)
          (HasNoEnd-one 0xDC refl))
      | inr e ↦ elim (is_true_or_not (is_escape b)) as (λ _. HasNoEnd (spelling_of_byte b)) [
        | inl f ↦ rw (e, f) (HasNoEnd-append (0xDB ∷ []) (0xDD ∷ []) (HasNoEnd-one 0xDB refl)
            (HasNoEnd-one 0xDD refl))
        | inr f ↦ rw (e, f) (HasNoEnd-one b e)
      ]
    ]

no_end : (bytes : List ℕ) → HasNoEnd (spelling_of bytes)
unfolding spelling_of
no_end [] = HasNoEnd-nil
no_end (b ∷ bytes) =
    HasNoEnd-append (spelling_of_byte b) (spelling_of bytes) (no_end_of_byte b) (no_end bytes)

some_byte : (b : ℕ) → 0 < length (spelling_of_byte b)
some_byte b =
    elim (is_true_or_not (is_frame_end b)) as (λ _. 0 < length (spelling_of_byte b)) [
      | inl e ↦ rw e (omega arith)
      | inr e ↦ elim (is_true_or_not (is_escape b)) as (λ _. 0 < length (spelling_of_byte b)) [
        | inl f ↦ rw (e, f) (omega arith)
        | inr f ↦ rw (e, f) (omega arith)
      ]
    ]

some : (b : ℕ) (bytes : List ℕ) → 0 < length (spelling_of (b ∷ bytes))
unfolding spelling_of
some b bytes =
    let one = some_byte b in
    let all = length-append (spelling_of_byte b) (spelling_of bytes) in
    omega (arith, one, all)

is_data : (head : ℕ) (frame : List ℕ) → head % 16 ≡ 0
    → data_frame_of (head ∷ frame) ≡ Ok (record { port = head / 16; bytes = frame })
is_data head frame e = rw e refl

-- ---- new to old

found : (bytes frame : List ℕ) (j : Judgement) → rest_of bytes ≡ []
    → judgements_of bytes ≡ j ∷ [] → frame_in_piece j ≡ Ok frame → frame_in bytes ≡ Ok frame
unfolding frame_in
found bytes frame j rest judged is = rw (rest, judged) is

pub frame_in-carried : (bytes frame : List ℕ) → CarriesFrame bytes frame
    → frame_in bytes ≡ Ok frame
frame_in-carried bytes frame h =
    let p = spelling_of (h.head ∷ frame) in
    let tail : List ℕ = replicate h.after 0xC0 in
    let few = IsSound-len frame h.is_frame in
    let judged : judgement_of p ≡ Ok (record { port = h.head / 16; bytes = frame }) =
    judgement_of-plain p (h.head ∷ frame) (unspelled-of (h.head ∷ frame)) (omega (arith, few))
    ∙ is_data h.head frame h.command in
    found bytes frame (judgement_of p)
    (ap rest_of h.bytes_are ∙ r_before h.before (p ++ 0xC0 ∷ tail)
    ∙ rest_of-end p tail (no_end (h.head ∷ frame)) ∙ r_ends h.after)
    (ap judgements_of h.bytes_are ∙ j_before h.before (p ++ 0xC0 ∷ tail)
    ∙ j_piece p tail (no_end (h.head ∷ frame)) (some h.head frame)
    ∙ ap (λ l. judgement_of p ∷ l) (j_ends h.after))
    (ap frame_in_piece judged ∙ ap frame_or_reason (is-frame_of frame h.is_frame))

-- ---- old to new

abbrev joined : List (List ℕ) → List ℕ
joined ps = flat_map (λ piece. piece ++ 0xC0 ∷ []) ps

-- pieces of which none is judged are empty
record AllEmpty (ps : List (List ℕ)) : Type 0 where
  many : ℕ
  is : joined ps ≡ replicate many 0xC0

all_empty : (ps : List (List ℕ)) → map judgement_of (filter is_nonempty ps) ≡ [] → AllEmpty ps
all_empty [] e = record { many = 0; is = refl }
all_empty ([] ∷ ps) e =
    let more = all_empty ps e in record { many = suc more.many; is = ap (λ l. 0xC0 ∷ l) more.is }
all_empty ((x ∷ xs) ∷ ps) e = absurd cc

record OnePiece (ps : List (List ℕ)) (j : Judgement) : Type 0 where
  before : ℕ
  piece : List ℕ
  after : ℕ
  is : joined ps ≡ replicate before 0xC0 ++ (piece ++ 0xC0 ∷ replicate after 0xC0)
  judged : judgement_of piece ≡ j
  whole : HasNoEnd piece

head_of : {X : Type 0} (x y : X) (xs ys : List X) → x ∷ xs ≡ y ∷ ys → x ≡ y
head_of x y xs ys e = cc

tail_of : {X : Type 0} (x y : X) (xs ys : List X) → x ∷ xs ≡ y ∷ ys → xs ≡ ys
tail_of x y xs ys e = cc

one_piece : (ps : List (List ℕ)) (j : Judgement) → All HasNoEnd ps
    → map judgement_of (filter is_nonempty ps) ≡ j ∷ [] → OnePiece ps j
one_piece [] j clean e = absurd cc
one_piece ([] ∷ ps) j clean e =
    let more = one_piece ps j (tail_clean clean) e in
    record {
      before = suc more.before;
      piece = more.piece;
      after = more.after;
      is = ap (λ l. 0xC0 ∷ l) more.is;
      judged = more.judged;
      whole = more.whole;
    } where
      tail_clean : All HasNoEnd ([] ∷ ps) → All HasNoEnd ps
      tail_clean h = λ i d l. h (suc i) d (omega (arith, l))
one_piece ((x ∷ xs) ∷ ps) j clean e =
    let more = all_empty ps (tail_of (judgement_of (x ∷ xs)) j _ [] e) in
    record {
      before = 0;
      piece = x ∷ xs;
      after = more.many;
      is = append_assoc (x ∷ xs) (0xC0 ∷ []) (joined ps)
          ∙ ap (λ l. (x ∷ xs) ++ 0xC0 ∷ l) more.is;
      judged = head_of (judgement_of (x ∷ xs)) j _ [] e;
      whole = clean 0 [] (omega arith);
    }

if_data : (b : Bool) (j : Judgement) (d : DataFrame) → (if b then Err TooLong else j) ≡ Ok d
    → j ≡ Ok d
if_data true j d e = absurd cc
if_data false j d e = e

record IsHead (bytes : List ℕ) (d : DataFrame) : Type 0 where
  head : ℕ
  command : head % 16 ≡ 0
  is : bytes ≡ head ∷ d.bytes

if_head : (b : Bool) (h : ℕ) (t : List ℕ) (d : DataFrame) → h % 16 == 0 ≡ b
    → (if b then Ok (record { port = h / 16; bytes = t }) else Err NotData) ≡ Ok d
    → IsHead (h ∷ t) d
if_head true h t d same e = record {
  head = h;
  command = eqb-true (h % 16) 0 same;
  is = let x : record { port = h / 16; bytes = t } ≡ d = cc in
      ap (λ (d : DataFrame). h ∷ d.bytes) x;
}
if_head false h t d same e = absurd cc

has_head : (bytes : List ℕ) (d : DataFrame) → data_frame_of bytes ≡ Ok d → IsHead bytes d
has_head [] d e = absurd cc
has_head (h ∷ t) d e = if_head (h % 16 == 0) h t d refl e

record IsSpelt (piece : List ℕ) (d : DataFrame) : Type 0 where
  head : ℕ
  command : head % 16 ≡ 0
  is : spelled_bytes piece ≡ Some (head ∷ d.bytes)

judged_by : (piece : List ℕ) (o : Option (List ℕ)) (d : DataFrame) → spelled_bytes piece ≡ o
    → judgement_by o ≡ Ok d → IsSpelt piece d
judged_by piece None d u e = absurd cc
judged_by piece (Some bytes) d u e =
    let h = has_head bytes d (if_data (nat_lt most_bytes (length bytes)) (data_frame_of bytes) d e) in
    record { head = h.head; command = h.command; is = u ∙ ap (λ l. Some l) h.is }

judged_data : (piece : List ℕ) (d : DataFrame) → judgement_of piece ≡ Ok d → IsSpelt piece d
unfolding judgement_of
judged_data piece d e = judged_by piece (spelled_bytes piece) d refl e

or_reason : (r : Result (List ℕ) FrameFault) (frame : List ℕ) → frame_or_reason r ≡ Ok frame
    → r ≡ Ok frame
or_reason (Ok f) frame e = let same : f ≡ frame = cc in ap (λ l. Ok l) same
or_reason (Err x) frame e = absurd cc

judged_all : (bytes : List ℕ) (js : List Judgement) → judgements_of bytes ≡ js
    → map judgement_of (filter is_nonempty (pieces_of bytes)) ≡ js
unfolding judgements_of
judged_all bytes js e = e

carried_by : (bytes frame : List ℕ) (d : DataFrame) → rest_of bytes ≡ []
    → judgements_of bytes ≡ Ok d ∷ [] → frame_or_fault d.bytes ≡ Ok frame → CarriesFrame bytes frame
carried_by bytes frame d r j e =
    let made = made_so bytes in
    let one = one_piece (pieces_of bytes) (Ok d) made.clean (judged_all bytes (Ok d ∷ []) j) in
    let its = judged_data one.piece d one.judged in
    let same : d.bytes ≡ frame = frame_of-same d.bytes frame e in
    let whole : bytes ≡ joined (pieces_of bytes) = made.joined
    ∙ ap (λ l. joined (pieces_of bytes) ++ l) r ∙ append-nil (joined (pieces_of bytes)) in
    record {
      before = one.before;
      after = one.after;
      head = its.head;
      command = its.command;
      is_frame = subst IsUiFrame same (frame_of-is d.bytes frame e);
      bytes_are = whole ∙ one.is
          ∙ ap (λ p. replicate one.before 0xC0 ++ (p ++ 0xC0 ∷ replicate one.after 0xC0))
          (spelling_of-unspelled one.piece (its.head ∷ d.bytes) one.whole its.is
          ∙ ap (λ b. spelling_of (its.head ∷ b)) same);
    }

carried_in : (bytes frame rest : List ℕ) (js : List Judgement) → rest_of bytes ≡ rest
    → judgements_of bytes ≡ js
    → (if is_nonempty rest then Err reason.Unended else only_frame js) ≡ Ok frame
    → CarriesFrame bytes frame
carried_in bytes frame (x ∷ xs) js r j e = absurd cc
carried_in bytes frame [] [] r j e = absurd cc
carried_in bytes frame [] (Err f ∷ []) r j e = absurd cc
carried_in bytes frame [] (Ok d ∷ []) r j e =
    carried_by bytes frame d r j (or_reason (frame_or_fault d.bytes) frame e)
carried_in bytes frame [] (a ∷ b ∷ more) r j e = absurd cc

pub carried-frame_in : (bytes frame : List ℕ) → frame_in bytes ≡ Ok frame
    → CarriesFrame bytes frame
unfolding frame_in
carried-frame_in bytes frame e =
    carried_in bytes frame (rest_of bytes) (judgements_of bytes) refl refl e
