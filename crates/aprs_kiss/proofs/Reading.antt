-- Lemmas on a reader that reads a piece of a stream.
use Rattle.aprs_kiss.proofs.Common.{◌≡◌, ◌≢◌, ℕ, ◌-◌, ◌<◌, ◌∙◌, sym, ap, refl, subst, List, [], ◌∷◌, ◌++◌, length, length-append, take, append_assoc, append-nil, arith, Bool, true, false, nat_tests, take-append_seam, take-length}
use Rattle.aprs_kiss.specs.Plain.{is_special}
use Rattle.aprs_kiss.specs.Stream.{EndsPiece, pieces_of, rest_of, judgements_of}
use Rattle.aprs_kiss.specs.Judgement.{Judgement, judgement_of}
use Rattle.aprs_kiss.specs.Reader.{StandsAfter}
use Rattle.aprs_kiss.specs.declared.reader.KissReader.{KissReader}
use Rattle.aprs_kiss.proofs.Pieces.{HasNoEnd-nil, cuts, pieces_of-none, pieces_of-end, rest_of-none, rest_of-end, judgements_of-append, judgements_of-none, judgements_of-empty, judgements_of-end}

-- the reader went from old to new over these bytes, and nothing is judgements of them
pub record Quiet (old new : KissReader) (seen : List ℕ) : Type 0 where
  pub stands : (e : List ℕ) → StandsAfter old e → StandsAfter new (rest_of (e ++ seen))
  pub silent : (e : List ℕ) → StandsAfter old e → judgements_of (e ++ seen) ≡ []

-- so it did over what of the piece comes before the rest
pub record HasRead (old : KissReader) (piece : List ℕ) (new : KissReader)
    (rest : List ℕ) : Type 0 where
  pub seen : List ℕ
  pub cut : piece ≡ seen ++ rest
  pub quiet : Quiet old new seen

pub Quiet-none : (old : KissReader) → Quiet old old []
Quiet-none old = record {
  stands = λ e s. rw (append-nil e, rest_of-none e s.whole) s;
  silent = λ e s. rw (append-nil e) (judgements_of-none e s.whole);
}

-- bytes without a frame end
pub Quiet-more : (old mid new : KissReader) (seen run : List ℕ) → Quiet old mid seen
    → ((d : List ℕ) → StandsAfter mid d → StandsAfter new (d ++ run)) → Quiet old new (seen ++ run)
Quiet-more old mid new seen run q f = record {
  stands = λ e s.
      let t = q.stands e s in
      let n = f (rest_of (e ++ seen)) t in
      rw (
        ← append_assoc e seen run,
        (cuts (e ++ seen) run).rest,
        rest_of-none
            (rest_of (e ++ seen) ++ run) n.whole,
      ) n;
  silent = λ e s.
      let t = q.stands e s in
      let n = f (rest_of (e ++ seen)) t in
      rw (
        ← append_assoc e seen run,
        judgements_of-append
            (e ++ seen) run,
        q.silent e s,
        judgements_of-none
            (rest_of (e ++ seen) ++ run) n.whole,
      ) refl;
}

-- a frame end after nothing
pub Quiet-end : (old mid : KissReader) (seen : List ℕ) → Quiet old mid seen
    → ((d : List ℕ) → StandsAfter mid d → d ≡ []) → Quiet old mid (seen ++ 0xC0 ∷ [])
Quiet-end old mid seen q f = record {
  stands = λ e s.
      let t = q.stands e s in
      let z = f (rest_of (e ++ seen)) t in
      rw (
        ← append_assoc e seen (0xC0 ∷ []),
        (cuts (e ++ seen)
            (0xC0 ∷ [])).rest,
        z,
        rest_of-end [] [] HasNoEnd-nil,
        rest_of-none [] HasNoEnd-nil,
      )
      (subst (λ d. StandsAfter mid d) z t);
  silent = λ e s.
      let t = q.stands e s in
      let z = f (rest_of (e ++ seen)) t in
      rw (
        ← append_assoc e seen (0xC0 ∷ []),
        judgements_of-append (e ++ seen)
            (0xC0 ∷ []),
        q.silent e s,
        z,
        judgements_of-empty,
      ) refl;
}

-- a frame end after a piece
pub record ReadsPiece (old new : KissReader) (seen : List ℕ) (judgements : List Judgement) : Type 0
  where
    pub stands : (e : List ℕ) → StandsAfter old e → StandsAfter new (rest_of (e ++ seen))
    pub judged : (e : List ℕ) → StandsAfter old e → judgements_of (e ++ seen) ≡ judgements
    pub ends : (e : List ℕ) → StandsAfter old e → EndsPiece (e ++ seen)

pub ReadsPiece-end : (old mid new : KissReader) (seen : List ℕ) (judgements : List Judgement)
    → Quiet old mid seen
    → ((d : List ℕ) → StandsAfter mid d → d ≢ []) → StandsAfter new []
    → ((d : List ℕ) → StandsAfter mid d → 0 < length d → judgements ≡ judgement_of d ∷ [])
    → ReadsPiece old new (seen ++ 0xC0 ∷ []) judgements
ReadsPiece-end old mid new seen judgements q f n j = record {
  stands = λ e s.
      let t = q.stands e s in
      rw (← append_assoc e seen (0xC0 ∷ []), rest_at e s) n;
  judged = λ e s.
      let t = q.stands e s in
      let l : 0 < length (rest_of (e ++ seen)) =
      nonempty_length (rest_of (e ++ seen)) (f (rest_of (e ++ seen)) t) in
      rw (
        ← append_assoc e seen (0xC0 ∷ []),
        judgements_of-append (e ++ seen)
            (0xC0 ∷ []),
        q.silent e s,
        judgements_of-end (rest_of (e ++ seen)) t.whole l,
      )
      (sym (j (rest_of (e ++ seen)) t l));
  ends = λ e s.
      let t = q.stands e s in
      let d = rest_of (e ++ seen) in
      rw (← append_assoc e seen (0xC0 ∷ [])) (record {
        before = pieces_of (e ++ seen);
        piece = d;
        last = (cuts (e ++ seen) (0xC0 ∷ [])).pieces
            ∙ ap (λ l. pieces_of (e ++ seen) ++ l)
            (pieces_of-end d [] t.whole ∙ ap (λ l. d ∷ l) (pieces_of-none [] HasNoEnd-nil));
        nonempty = nonempty_length d (f d t);
        left = rest_at e s;
      });
}
  where
    rest_at : (e : List ℕ) → StandsAfter old e → rest_of ((e ++ seen) ++ 0xC0 ∷ []) ≡ []
    rest_at e s =
        (cuts (e ++ seen) (0xC0 ∷ [])).rest
        ∙ rest_of-end (rest_of (e ++ seen)) [] (q.stands e s).whole
        ∙ rest_of-none [] HasNoEnd-nil

    nonempty_length : (d : List ℕ) → d ≢ [] → 0 < length d
    nonempty_length [] n = absurd (n refl)
    nonempty_length (x ∷ xs) n = omega arith

-- ---- what is left of the piece

pub HasRead-run : (old mid new : KissReader) (piece rest run more : List ℕ)
    → HasRead old piece mid rest → rest ≡ run ++ more
    → ((d : List ℕ) → StandsAfter mid d → StandsAfter new (d ++ run)) → HasRead old piece new more
HasRead-run old mid new piece rest run more h e f = record {
  seen = h.seen ++ run;
  cut = h.cut ∙ ap (λ l. h.seen ++ l) e ∙ sym (append_assoc h.seen run more);
  quiet = Quiet-more old mid new h.seen run h.quiet f;
}

pub HasRead-end : (old mid : KissReader) (piece rest after : List ℕ) → HasRead old piece mid rest
    → rest ≡ 0xC0 ∷ after
    → ((d : List ℕ) → StandsAfter mid d → d ≡ []) → HasRead old piece mid after
HasRead-end old mid piece rest after h e f = record {
  seen = h.seen ++ 0xC0 ∷ [];
  cut = h.cut ∙ ap (λ l. h.seen ++ l) e ∙ sym (append_assoc h.seen (0xC0 ∷ []) after);
  quiet = Quiet-end old mid h.seen h.quiet f;
}

-- the bytes of a piece up to what is left of it
used_of : (piece used left : List ℕ) → piece ≡ used ++ left
    → take (length piece - length left) piece ≡ used
used_of piece used left e =
    let n : length piece - length left ≡ length used =
    omega (arith, ap length e, length-append used left) in
    ap (λ k. take k piece) n ∙ ap (take (length used)) e ∙ take-append_seam used left

-- nothing is left
pub Quiet-all : (old new : KissReader) (piece : List ℕ) → HasRead old piece new []
    → Quiet old new (take (length piece) piece)
Quiet-all old new piece h =
    let e : piece ≡ h.seen = h.cut ∙ append-nil h.seen in
    subst (Quiet old new)
    (sym (ap (take (length piece)) e ∙ ap (λ p. take (length p) h.seen) e
    ∙ take-length h.seen)) h.quiet

pub ReadsPiece-used : (old mid new : KissReader) (piece rest after : List ℕ)
    (judgements : List Judgement)
    → HasRead old piece mid rest
    → rest ≡ 0xC0 ∷ after
    → ((d : List ℕ) → StandsAfter mid d → d ≢ []) → StandsAfter new []
    → ((d : List ℕ) → StandsAfter mid d → 0 < length d → judgements ≡ judgement_of d ∷ [])
    → ReadsPiece old new (take (length piece - length after) piece) judgements
ReadsPiece-used old mid new piece rest after judgements h e f n j =
    let cut = h.cut ∙ ap (λ l. h.seen ++ l) e ∙ sym (append_assoc h.seen (0xC0 ∷ []) after) in
    subst (λ used. ReadsPiece old new used judgements)
    (sym (used_of piece (h.seen ++ 0xC0 ∷ []) after cut))
    (ReadsPiece-end old mid new h.seen judgements h.quiet f n j)

pub frame_end_else : (mark : ℕ) → is_special mark ≡ true → mark ≢ 0xDB → mark ≡ 0xC0
frame_end_else mark h n = grind (arith, nat_tests)

-- some bytes were used
pub some_used : (old new : KissReader) (piece rest run after : List ℕ) (mark : ℕ)
    → HasRead old piece new rest
    → rest ≡ run ++ mark ∷ after → 0 < length piece - length after
some_used old new piece rest run after mark h e =
    omega (
      arith,
      ap length h.cut,
      ap length e,
      length-append h.seen rest,
      length-append run
          (mark ∷ after),
    )

-- the plain bytes before a special one
pub HasRead-mark : (old mid new : KissReader) (piece rest plain after : List ℕ) (mark known : ℕ)
    → HasRead old piece mid rest
    → rest ≡ plain ++ mark ∷ after → mark ≡ known
    → ((d : List ℕ) → StandsAfter mid d → StandsAfter new (d ++ plain))
    → HasRead old piece new (known ∷ after)
HasRead-mark old mid new piece rest plain after mark known h e k f =
    HasRead-run old mid new piece rest plain (known ∷ after) h
    (e ∙ ap (λ m. plain ++ m ∷ after) k) f

-- a test that is false where nothing is held
pub begun_by_test : (test : Bool) (d : List ℕ) → test ≡ false → (d ≡ [] → test ≡ true) → d ≢ []
begun_by_test test d shut empty = λ z. let t = empty z in cc
